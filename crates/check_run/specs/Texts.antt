-- What `check` says.
use Rattle.std.specs.Prelude.{ℕ, List, ◌∷◌, ◌++◌, codes, decimal, flat_map}
use Rattle.impl_rules.specs.Broken.{rule_number}
use Rattle.front_model.specs.declared.refusals.FrontWhy.{FrontWhy}
use Rattle.front_model.specs.declared.refusals.FrontWhy.TheVariants.{Invalid, VectorDiffers, NotRising, CoveredBy, Open}
use Rattle.front_model.specs.declared.refusals.FrontRefused.{FrontRefused}
use Rattle.front_model.specs.declared.refusals.ProofWhy.{ProofWhy}
use Rattle.front_model.specs.declared.refusals.ProofWhy.TheVariants.{BadStep, UnknownId, ZeroDivisor, TooLarge, CoverAboveWeight, CoverNotDominated, NoContradiction}
use Rattle.front_model.specs.declared.refusals.Refused.{Refused}

-- a number after a space
abbrev pub number_text : ℕ → List ℕ
number_text n = 32 ∷ decimal n

-- numbers, each after a space
abbrev pub numbers_text : List ℕ → List ℕ
numbers_text ns = flat_map number_text ns

-- a front of so many entries is accepted
abbrev pub accepted_text : ℕ → List ℕ
accepted_text entries = codes "accepted" ++ number_text entries ++ codes "\n"

-- why an entry is refused: the name of the reason and its numbers, of a rule its number alone
abbrev pub front_why_text : FrontWhy → List ℕ
front_why_text (Invalid rule) = codes "Invalid" ++ number_text (rule_number rule)
front_why_text (VectorDiffers place) = codes "VectorDiffers" ++ number_text place
front_why_text NotRising = codes "NotRising"
front_why_text (CoveredBy entry) = codes "CoveredBy" ++ number_text entry
front_why_text Open = codes "Open"

-- at which entry, and why
abbrev pub front_place_text : ℕ → List ℕ
front_place_text entry = codes "refused front" ++ number_text entry

abbrev pub front_reason_text : FrontWhy → List ℕ
front_reason_text why = codes " " ++ front_why_text why ++ codes "\n"

-- the line that refuses a front
abbrev pub front_refused_text : FrontRefused → List ℕ
front_refused_text r = front_place_text r.entry ++ front_reason_text r.why

-- that no vector of the front is at most a cover
abbrev pub not_dominated_text : List ℕ → List ℕ
not_dominated_text cover = codes "CoverNotDominated" ++ numbers_text cover

-- why a proof is refused at a line: the name of the reason and its numbers
abbrev pub proof_why_text : ProofWhy → List ℕ
proof_why_text BadStep = codes "BadStep"
proof_why_text (UnknownId number) = codes "UnknownId" ++ number_text number
proof_why_text ZeroDivisor = codes "ZeroDivisor"
proof_why_text (TooLarge number) = codes "TooLarge" ++ number_text number
proof_why_text (CoverAboveWeight place) = codes "CoverAboveWeight" ++ number_text place
proof_why_text (CoverNotDominated cover) = not_dominated_text cover
proof_why_text NoContradiction = codes "NoContradiction"

-- at which line, and why
abbrev pub proof_place_text : ℕ → List ℕ
proof_place_text line = codes "refused proof" ++ number_text line

abbrev pub proof_reason_text : ProofWhy → List ℕ
proof_reason_text why = codes " " ++ proof_why_text why ++ codes "\n"

-- the line that refuses a proof
abbrev pub proof_refused_text : Refused → List ℕ
proof_refused_text r = proof_place_text r.line ++ proof_reason_text r.why
