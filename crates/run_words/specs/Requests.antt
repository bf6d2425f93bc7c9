-- The request of the words of a command line.
use Rattle.std.specs.Prelude.{◌∷◌, ◌++◌, [], List, Option, None, codes, option_map, if◌then◌else◌}
use Rattle.std.specs.Str.{bytes_eq}
use Rattle.form_words.specs.Line.{Text}
use Rattle.run_words.specs.Values.{RequestValue, decode, explore, front, check, make}
use Rattle.run_words.specs.Decoding.{decode_request, decode_usage}
use Rattle.run_words.specs.Exploring.{explore_request, explore_usage}
use Rattle.run_words.specs.Fronting.{front_request, front_usage}
use Rattle.run_words.specs.Checking.{check_request, check_usage}
use Rattle.run_words.specs.Making.{make_request, make_usage}

-- the request, by the first word, of tools with these tags
abbrev pub request : List Text → List Text → Option RequestValue
request tags [] = None
request tags (name ∷ words) =
    if bytes_eq name (codes "decode") then option_map decode (decode_request words)
    else (if bytes_eq name (codes "explore") then option_map explore (explore_request tags words)
    else (if bytes_eq name (codes "front") then option_map front (front_request words)
    else (if bytes_eq name (codes "check") then option_map check (check_request words)
    else (if bytes_eq name (codes "make") then option_map make (make_request words)
    else None))))

-- the lines of all commands
abbrev pub usage_text : Text
usage_text = decode_usage ++ explore_usage ++ front_usage ++ check_usage ++ make_usage
