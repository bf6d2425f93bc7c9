-- The text of lines, one line after another.
use Rattle.std.proofs.Common.{◌≡◌, ℕ, ◌+◌, List, [], ◌∷◌, ◌++◌, take, sym, ap, ◌∙◌}
use Rattle.std.specs.List.{flat_map}
use Rattle.std.proofs.lemmas.List.Concat.{flat_map-append}
use Rattle.std.proofs.lemmas.List.{take_more, append_assoc, append-nil}
use Rattle.pb_rules.specs.Frames.{Line, derived}
use Rattle.proof_words.specs.Lines.{line_text}
use Rattle.proof_log.specs.Text.{header, line_at, TextBegins, TextGoesOn}

pub text_begins : TextBegins
text_begins = append-nil header

-- the text of one line more
pub text_goes_on : TextGoesOn
text_goes_on ls i lt =
    let l : Line = line_at ls i in
    let old : List ℕ = flat_map line_text (take i ls) in
    let more : flat_map line_text (take (i + 1) ls) ≡ old ++ line_text l =
    ap (flat_map line_text) (take_more ls i (derived []) lt) ∙ flat_map-append line_text (take i ls) (l ∷ []) ∙ ap (λ (t : List ℕ). old ++ t) (append-nil (line_text l)) in
    ap (λ (t : List ℕ). header ++ t) more ∙ sym (append_assoc header old (line_text l))
