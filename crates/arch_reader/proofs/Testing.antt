-- The rules stand in their order; a statement that is accepted breaks none of them.
use Rattle.std.proofs.Common.{◌≡◌, Bool, true, false, ◌||◌, List, Option, Some, None, refl, sym, ap}
use Rattle.std.proofs.lemmas.Bool.{false≢true}
use Rattle.line_words.specs.Refused.{rank}
use Rattle.line_words.specs.Rules.{IsRanked, AreInOrder, first_broken}
use Rattle.line_words.specs.declared.refusals.Why.TheVariants.{NoHeader, BadStatement, BadNumber, UnknownName, RepeatedName, SelfLink, NotWhole, TooBig, Limit}
use Rattle.line_words.specs.declared.refusals.What.TheVariants.{NameBytes, Resources, Links, Objectives}
use Rattle.line_words.proofs.Steps.{ranked}
use Rattle.file_bricks.proofs.Deciding.{fine_for}
use Rattle.file_bricks.proofs.Headed.{in_order_headed}
use Rattle.arch_reader.specs.Shapes.{plain, form_of}
use Rattle.arch_reader.specs.Seen.{seen}
use Rattle.arch_reader.specs.Tests.{tests, has_bad_shape, has_bad_number, has_unknown_name, has_repeated_name, has_big_number}
use Rattle.arch_reader.specs.Arch.{is_header, later, at_end, arch_rules, statements_in, lines_of, Passes}
use Rattle.arch_reader.specs.declared.statement.Statement.{Statement}
use Rattle.arch_reader.specs.declared.numbers.Misread.{Misread}
use Rattle.arch_reader.specs.declared.form.Form.{Form}
use Rattle.arch_reader.specs.declared.seen.Seen.{Seen}
use Rattle.arch_reader.proofs.Misreading.{none_misread}
use Rattle.arch_reader.proofs.Naming.{IsSaid, names_said, declared_is_word}

-- ---- their order

form_ranked : (s : Seen) (form : Option Form) → IsRanked (rank NoHeader) (tests s form)
unfolding tests
form_ranked s None = ranked (rank NoHeader) (tests s None) refl
form_ranked s (Some f) = ranked (rank NoHeader) (tests s (Some f)) refl

-- the rules of the file stand in the order of their refusals
pub in_order : AreInOrder arch_rules
in_order = in_order_headed is_header later at_end (λ header before ws. form_ranked (seen (statements_in (lines_of before))) (form_of ws)) (λ header before. tt)

-- words of no form are refused
pub no_form : (s : Seen) → first_broken (tests s None) ≡ Some BadStatement
unfolding tests
no_form s = refl

-- ---- an accepted statement

abbrev with_misread : Statement → Misread → Form
with_misread s m = record { statement = s; misread = m }

-- ---- one of several tests

left : (a b : Bool) → (a || b) ≡ false → a ≡ false
left false b e = refl
left true b e = e

right : (a b : Bool) → (a || b) ≡ false → b ≡ false
right false b e = e
right true b e = absurd (false≢true (sym e))

no_bad : (s : Seen) (f : Form) → first_broken (tests s (Some f)) ≡ None → f.misread.bad ≡ false
unfolding tests has_bad_number
no_bad s f e = left _ _ (left _ _ (left _ _ (fine_for BadNumber (tests s (Some f)) e)))

no_big : (s : Seen) (f : Form) → first_broken (tests s (Some f)) ≡ None → f.misread.big ≡ false
unfolding tests has_big_number
no_big s f e = left _ _ (left _ _ (left _ _ (left _ _ (fine_for TooBig (tests s (Some f)) e))))

-- its words are numbers where they have to be
pub accepted_plain : (s : Seen) (f : Form) → first_broken (tests s (Some f)) ≡ None → f ≡ plain f.statement
accepted_plain s f e = ap (λ (x : Misread). with_misread f.statement x) (none_misread f.misread (no_bad s f e) (no_big s f e))

-- the tests by name
pub passes : (before : List Statement) (s : Statement) → IsSaid s → first_broken (tests (seen before) (Some (plain s))) ≡ None → Passes before s
unfolding tests has_bad_shape has_bad_number has_unknown_name has_repeated_name has_big_number
passes before s said e =
    let ts = tests (seen before) (Some (plain s)) in
    let words = names_said s said in
    let shape = fine_for BadStatement ts e in
    let number = fine_for BadNumber ts e in
    let unknown = fine_for UnknownName ts e in
    let repeated = fine_for RepeatedName ts e in
    let big = fine_for TooBig ts e in
    record {
      is_formed = said.formed;
      name_is_word = declared_is_word s words;
      names_are_words = words;
      name_is_no_arrow = left _ _ (left _ _ shape);
      name_is_not_reserved = right _ _ (left _ _ shape);
      clock_is_in_time = right _ _ shape;
      no_negative_weight = left _ _ (left _ _ number);
      no_negative_time = right _ _ (left _ _ number);
      no_negative_quantity = right _ _ number;
      weights_are_known = left _ _ (left _ _ (left _ _ (left _ _ unknown)));
      keys_are_known = right _ _ (left _ _ (left _ _ (left _ _ unknown)));
      places_are_known = right _ _ (left _ _ (left _ _ unknown));
      resources_are_known = right _ _ (left _ _ unknown);
      link_is_known = right _ _ unknown;
      name_is_new = left _ _ (left _ _ (left _ _ (left _ _ repeated)));
      clock_is_first = right _ _ (left _ _ (left _ _ (left _ _ repeated)));
      no_repeated_weight = right _ _ (left _ _ (left _ _ repeated));
      no_repeated_key = right _ _ (left _ _ repeated);
      no_repeated_place = right _ _ repeated;
      no_self_link = fine_for SelfLink ts e;
      no_fraction = fine_for NotWhole ts e;
      scale_is_small = left _ _ (left _ _ (left _ _ big));
      weights_are_small = right _ _ (left _ _ (left _ _ big));
      time_is_small = right _ _ (left _ _ big);
      quantity_is_small = right _ _ big;
      name_is_short = fine_for (Limit NameBytes) ts e;
      resources_are_few = fine_for (Limit Resources) ts e;
      links_are_few = fine_for (Limit Links) ts e;
      objectives_are_few = fine_for (Limit Objectives) ts e;
    }
