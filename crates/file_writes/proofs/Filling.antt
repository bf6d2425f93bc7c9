-- A file that is filled piece by piece with the text of a log.
use Rattle.std.proofs.Common.{◌≡◌, ◌++◌, ◌+◌, ◌<◌, ◌≤◌, ◌∙◌, [], ℕ, List, Option, length, take, drop, sym, ap, arith}
use Rattle.std.specs.List.{flat_map}
use Rattle.std.proofs.lemmas.List.{append_assoc, append-nil, take-append-drop, take-append-le, take_all}
use Rattle.std.proofs.lemmas.List.Concat.{flat_map-append}
use Rattle.desk_io.specs.Files.{Files, Edits, Appends, AppendsPrefix}
use Rattle.pb_rules.specs.Frames.{Line}
use Rattle.proof_words.specs.Lines.{line_text}
use Rattle.proof_log.specs.Text.{header, line_at, proof_text}
use Rattle.proof_log.proofs.Texts.{text_goes_on}
use Rattle.file_writes.specs.Writes.{Leaves, Rewrites}
use Rattle.file_writes.proofs.Rewriting.{leaves_rewrites, leaves_on, of_edits}

-- what the file gained and the piece that waits are the text of the lines so far
pub record Filled (ls : List Line) (i : ℕ) (piece old new : List ℕ) : Type 0 where
  pub gained : List ℕ
  pub more : new ≡ old ++ gained
  pub text : gained ++ piece ≡ proof_text (take i ls)

abbrev pub IsFilled : Option Files → Option Files → List ℕ → List Line → ℕ → List ℕ → Type 0
IsFilled start now name ls i piece = Leaves start now (Rewrites name (Filled ls i piece))

-- ---- first parts of a text

-- a text begins with another
abbrev Begins : List ℕ → List ℕ → Type 0
Begins xs ys = (rest : List ℕ) × (ys ≡ xs ++ rest)

begins_part : (xs ys : List ℕ) → Begins xs ys → xs ≡ take (length xs) ys
begins_part xs ys h =
    let e : take (length xs) (xs ++ h.0) ≡ xs = take-append-le (length xs) xs h.0 (omega arith) ∙ take_all (length xs) xs (omega arith) in
    sym (ap (take (length xs)) h.1 ∙ e)

begins_on : (xs ys zs : List ℕ) → Begins xs ys → Begins ys zs → Begins xs zs
begins_on xs ys zs h k = (h.0 ++ k.0, k.1 ∙ (ap (λ (t : List ℕ). t ++ k.0) h.1 ∙ append_assoc xs h.0 k.0))

-- so many lines are a first part of all
lines_begin : (ls : List Line) (i : ℕ) → Begins (proof_text (take i ls)) (proof_text ls)
lines_begin ls i =
    let front : List ℕ = flat_map line_text (take i ls) in
    let rest : List ℕ = flat_map line_text (drop i ls) in
    let e : flat_map line_text ls ≡ front ++ rest = ap (flat_map line_text) (sym (take-append-drop i ls)) ∙ flat_map-append line_text (take i ls) (drop i ls) in
    (rest, ap (λ (t : List ℕ). header ++ t) e ∙ sym (append_assoc header front rest))

-- what a file gained is a first part of the text
gains_part : (ls : List Line) (i : ℕ) (gained rest old new : List ℕ) → new ≡ old ++ gained → gained ++ rest ≡ proof_text (take i ls) → AppendsPrefix (proof_text ls) old new
gains_part ls i gained rest old new more text =
    let front : Begins gained (proof_text ls) = begins_on gained (proof_text (take i ls)) (proof_text ls) (rest, sym text) (lines_begin ls i) in
    (length gained, more ∙ ap (λ (t : List ℕ). old ++ t) (begins_part gained (proof_text ls) front))

-- ---- what holds on the way

-- a line more in the piece
pub filled_line : (start now : Option Files) (name : List ℕ) (ls : List Line) (i : ℕ) (piece longer : List ℕ) → i < length ls → longer ≡ piece ++ line_text (line_at ls i)
    → IsFilled start now name ls i piece → IsFilled start now name ls (i + 1) longer
filled_line start now name ls i piece longer lt e h =
    let l : List ℕ = line_text (line_at ls i) in
    leaves_rewrites start now name (Filled ls i piece) (Filled ls (i + 1) longer)
    (λ u v k. record {
      gained = k.gained;
      more = k.more;
      text = ap (λ (t : List ℕ). k.gained ++ t) e
          ∙ (sym (append_assoc k.gained piece l) ∙ (ap (λ (t : List ℕ). t ++ l) k.text ∙ sym (text_goes_on ls i lt)));
    }) h

-- what a piece adds to a file
gained_more : (u v w gained piece : List ℕ) → v ≡ u ++ gained → w ≡ v ++ piece → w ≡ u ++ (gained ++ piece)
gained_more u v w gained piece e h = h ∙ (ap (λ (t : List ℕ). t ++ piece) e ∙ append_assoc u gained piece)

-- the piece goes into the file
pub filled_on : (start now new : Option Files) (name : List ℕ) (ls : List Line) (i : ℕ) (piece : List ℕ) → IsFilled start now name ls i piece → Edits now new name (Appends piece)
    → IsFilled start new name ls i []
filled_on start now new name ls i piece h k =
    leaves_on start now new name (Filled ls i piece) (Appends piece) (Filled ls i [])
    (λ u v w filled appends. record { gained = filled.gained ++ piece; more = gained_more u v w filled.gained piece filled.more appends; text = append-nil (filled.gained ++ piece) ∙ filled.text })
    h (of_edits now new name (Appends piece) k)

-- ---- where it ends

pub filled_whole : (start now new : Option Files) (name : List ℕ) (ls : List Line) (i : ℕ) (piece : List ℕ) → length ls ≤ i → IsFilled start now name ls i piece
    → Edits now new name (Appends piece) → Leaves start new (Rewrites name (Appends (proof_text ls)))
filled_whole start now new name ls i piece end h k =
    leaves_on start now new name (Filled ls i piece) (Appends piece) (Appends (proof_text ls))
    (λ u v w filled appends. gained_more u v w filled.gained piece filled.more appends ∙ ap (λ (t : List ℕ). u ++ t) (filled.text ∙ ap proof_text (take_all i ls end)))
    h (of_edits now new name (Appends piece) k)

-- the piece doesn't go into the file
pub filled_part : (start now : Option Files) (name : List ℕ) (ls : List Line) (i : ℕ) (piece : List ℕ) → IsFilled start now name ls i piece
    → Leaves start now (Rewrites name (AppendsPrefix (proof_text ls)))
filled_part start now name ls i piece h =
    leaves_rewrites start now name (Filled ls i piece) (AppendsPrefix (proof_text ls))
    (λ u v filled. gains_part ls i filled.gained piece u v filled.more filled.text) h

-- the first bytes of a piece go into the file
pub filled_cut : (start now new : Option Files) (name : List ℕ) (ls : List Line) (i : ℕ) (piece : List ℕ) → IsFilled start now name ls i piece → Edits now new name (AppendsPrefix piece)
    → Leaves start new (Rewrites name (AppendsPrefix (proof_text ls)))
filled_cut start now new name ls i piece h k =
    leaves_on start now new name (Filled ls i piece) (AppendsPrefix piece) (AppendsPrefix (proof_text ls))
    (λ u v w filled appends.
    let front : List ℕ = take appends.0 piece in
    let rest : List ℕ = drop appends.0 piece in
    let text : (filled.gained ++ front) ++ rest ≡ proof_text (take i ls) = append_assoc filled.gained front rest
    ∙ (ap (λ (t : List ℕ). filled.gained ++ t) (take-append-drop appends.0 piece) ∙ filled.text) in
    gains_part ls i (filled.gained ++ front) rest u w (gained_more u v w filled.gained front filled.more appends.1) text)
    h (of_edits now new name (AppendsPrefix piece) k)
