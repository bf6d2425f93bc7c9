use Rattle.std.proofs.Common.{◌≡◌, ◌++◌, ◌∷◌, [], List, true, take, refl, sym, subst, arith}
use Rattle.std.proofs.lemmas.List.Elements.{All-append, All-cons, All-nil}
use Rattle.pb_rules.specs.Linear.{Linear}
use Rattle.pb_rules.specs.Clauses.{IsClause}
use Rattle.pb_rules.specs.Frames.{Line, derived, is_derived, with_derived, derived_from}
use Rattle.pb_rules.specs.Honest.{AreHonest}
use Rattle.pb_rules.proofs.Closed.{honest_push, unabsorbed_among, among_append, among_front, among_back}
use Rattle.pb_rules.proofs.Given.{given-push, derived-push}
use Rattle.proof_log.proofs.law_of_honest.Goals as goal

abbrev IsDerived : Line → Type 0
IsDerived l = is_derived l ≡ true

pub returns-clause-none : goal.returns-clause-none
returns-clause-none c f g base = record {
  derived_each = All-nil IsDerived;
  after = g;
  legal = refl;
  honest = record { clauses_each = All-nil IsClause; unabsorbed = λ k d l. absurd (omega arith) };
}

pub returns-clause-one_more : goal.returns-clause-one_more
returns-clause-one_more c f g h base ls ops clause honest e gives is new = record {
  derived_each = All-append IsDerived ls (derived ops ∷ []) honest.derived_each (All-cons IsDerived (derived ops) [] refl (All-nil IsDerived));
  after = with_derived h clause;
  legal = given-push f g h ls ops clause e gives;
  honest = subst (AreHonest base) (sym (derived-push f g h ls ops clause e gives)) (honest_push base (derived_from f g ls) clause honest.honest is new);
}

pub returns-clause-part : goal.returns-clause-part
returns-clause-part c f g cs ds ls among honest = record {
  derived_each = honest.derived_each;
  after = honest.after;
  legal = honest.legal;
  honest = record {
    clauses_each = honest.honest.clauses_each;
    unabsorbed = λ k d l. (let earlier : List Linear = take k (derived_from f g ls) in
        unabsorbed_among (cs ++ earlier) (ds ++ earlier) _ (among_append cs earlier (ds ++ earlier) (λ x h. among_front ds earlier x (among x h)) (among_back ds earlier))
        (honest.honest.unabsorbed k d l));
  };
}
