-- What a request says.
use Rattle.std.specs.Prelude.{option_map, string_bytes}
use Rattle.run_words.specs.Decoding.{DecodeValue}
use Rattle.run_words.specs.Exploring.{ExploringValue}
use Rattle.run_words.specs.Fronting.{FrontingValue}
use Rattle.run_words.specs.Checking.{CheckValue}
use Rattle.run_words.specs.Making.{MakingValue}
use Rattle.run_words.specs.declared.request.Request.{Request}
use Rattle.run_words.specs.declared.request.Request.TheVariants as asks

-- a request, by the command that it asks for
pub data RequestValue : Type 0 where
  decode : DecodeValue → RequestValue
  explore : ExploringValue → RequestValue
  front : FrontingValue → RequestValue
  check : CheckValue → RequestValue
  make : MakingValue → RequestValue

-- what a request says
abbrev pub request_value : Request → RequestValue
request_value (asks.Decode tgff arch geno budget proof_file) =
    decode (record { tgff = string_bytes tgff; arch = string_bytes arch; geno = string_bytes geno; budget = budget; proof = option_map string_bytes proof_file })
request_value (asks.Explore tgff arch rounds seed chosen proof_file) =
    explore (record { tgff = string_bytes tgff; arch = string_bytes arch; rounds = rounds; seed = seed; chosen = chosen.items; proof = option_map string_bytes proof_file })
request_value (asks.Front tgff arch front_file proof_file budget) =
    front (record { tgff = string_bytes tgff; arch = string_bytes arch; front = string_bytes front_file; proof = string_bytes proof_file; budget = budget })
request_value (asks.Check tgff arch front_file proof_file) = check (record { tgff = string_bytes tgff; arch = string_bytes arch; front = string_bytes front_file; proof = string_bytes proof_file })
request_value (asks.Make number arch rounds) = make (record { number = number; arch = string_bytes arch; rounds = rounds })
