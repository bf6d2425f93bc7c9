use Rattle.std.proofs.Common.{ℕ, List, take, drop, sym, ap, ◌∙◌, Bor}
use Rattle.std.proofs.lemmas.List.{take-map, drop-map}
use Rattle.line_words.specs.Rules.{said}
use Rattle.arch_reader.proofs.shapes.split_keys.Goals as goal

pub returns-clause-keys : goal.returns-clause-keys
returns-clause-keys c =
    ap said c.split_at.ensures.front ∙ sym (take-map (λ (w : Bor (List ℕ)). w.now) c.keyed_len.result c.args.words.now) ∙ ap (λ (n : ℕ). take n (said c.args.words.now)) c.keyed_len.ensures.value

pub returns-clause-places : goal.returns-clause-places
returns-clause-places c =
    ap said c.split_at.ensures.back ∙ sym (drop-map (λ (w : Bor (List ℕ)). w.now) c.keyed_len.result c.args.words.now) ∙ ap (λ (n : ℕ). drop n (said c.args.words.now)) c.keyed_len.ensures.value
