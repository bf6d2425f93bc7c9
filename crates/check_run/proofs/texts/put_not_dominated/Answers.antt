use Rattle.std.proofs.Common.{◌∙◌, ◌++◌, ℕ, List, ap}
use Rattle.std.specs.Prelude.{codes}
use Rattle.std.proofs.lemmas.List.{append_assoc}
use Rattle.check_run.specs.Texts.{numbers_text}
use Rattle.check_run.proofs.texts.put_not_dominated.Goals as goal

pub returns : goal.returns
returns c =
    c.in_ok-put_numbers.ensures ∙ (ap (λ (t : List ℕ). t ++ numbers_text c.args.cover.now) c.in_ok-extend_from_slice.ensures.items
    ∙ append_assoc c.args.out.now.items (codes "CoverNotDominated") (numbers_text c.args.cover.now))
