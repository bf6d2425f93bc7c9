-- There is one run.
use Rattle.std.proofs.Common.{◌≡◌, ℕ, ◌++◌, Bool, List, [], ◌∷◌, length, map, refl, sym, ap, ap₂, ◌∙◌, subst, arith}
use Rattle.spec_model.specs.Spec.{SpecValue, Bits, bits_of, design_variables}
use Rattle.spec_model.specs.Genotypes.{GeneValue, IsFirstValid}
use Rattle.spec_model.proofs.Ones.{first_is_one}
use Rattle.spec_model.specs.Rules.{IsValid}
use Rattle.front_archive.specs.declared.member.Member.{Member}
use Rattle.front_archive.specs.Members.{covers}
use Rattle.front_archive.specs.Best.{best}
use Rattle.evo_explore.specs.Run.{whole_vector, IsRound, after_round, AreRounds, EndsBy, vector_in}
use Rattle.evo_explore.specs.Laws.{AreAlike, RunIsOne}
use Rattle.evo_explore.specs.declared.run.Run.{Run}
use Rattle.evo_explore.specs.declared.run.End.{End}
use Rattle.evo_explore.specs.declared.run.End.TheVariants.{Done, Infeasible}
use Rattle.evo_explore.proofs.Exploring.{no_rounds}

same_member : (m k : Member) → m.genotype ≡ k.genotype → m.design ≡ k.design → m.vector ≡ k.vector → m ≡ k
same_member m k genes design vector =
    ap (λ (g : List GeneValue). record { genotype = g; design = m.design; vector = m.vector }) genes
    ∙ ap₂ (λ (d : List Bool) (v : List ℕ). record { genotype = k.genotype; design = d; vector = v }) design vector

-- ---- one run

module _ {S : Type 0} (s : SpecValue) (gives : S → ℕ) (after : S → S) (measured : Bits → List ℕ) where
  round_is_one : (before : List Member) (words : S) (m k : Member) → IsRound s gives after measured before words m → IsRound s gives after measured before words k → m ≡ k
  round_is_one before words m k a b =
      let genes : m.genotype ≡ k.genotype = a.genes ∙ sym b.genes in
      let first : IsFirstValid s k.genotype (bits_of m.design) = subst (λ (g : List GeneValue). IsFirstValid s g (bits_of m.design)) genes a.first in
      let design : m.design ≡ k.design = first_is_one (IsValid s) (design_variables s) k.genotype m.design k.design a.one_each b.one_each first b.first in
      same_member m k genes design (a.vector ∙ (ap (λ (d : List Bool). whole_vector s measured (bits_of d)) design ∙ sym b.vector))

  rounds_are_one : (before es fs : List Member) (start w v : S) → length es ≡ length fs
      → AreRounds s gives after measured before es start w → AreRounds s gives after measured before fs start v → (es ≡ fs) × (w ≡ v)
  rounds_are_one before [] [] start w v e p q = (refl, sym p ∙ q)
  rounds_are_one before [] (y ∷ ys) start w v e p q = absurd (omega (arith, e))
  rounds_are_one before (x ∷ xs) [] start w v e p q = absurd (omega (arith, e))
  rounds_are_one before (x ∷ xs) (y ∷ ys) start w v e p q =
      let one : x ≡ y = round_is_one before start x y p.0 q.0 in
      let next = after_round s gives after before start in
      let moved = subst (λ (m : Member). AreRounds s gives after measured (before ++ m ∷ []) ys next v) (sym one) q.1 in
      let rest = rounds_are_one (before ++ x ∷ []) xs ys next w v (omega (arith, e)) p.1 moved in
      (ap₂ (λ (m : Member) (ms : List Member). m ∷ ms) one rest.0, rest.1)

  ends_alike : (start words more : S) (rounds : ℕ) (one other : Run) (d e : End)
      → EndsBy s gives after measured start words one rounds d → EndsBy s gives after measured start more other rounds e → AreAlike one other words more d e
  ends_alike start words more rounds one other Done Done a b =
      let same = rounds_are_one [] a.entries b.entries start words more (a.count ∙ sym b.count) a.rounds_are b.rounds_are in
      record {
        history = a.history_is ∙ (ap (map vector_in) same.0 ∙ sym b.history_is);
        members = a.best_are ∙ (ap (best covers) same.0 ∙ sym b.best_are);
        end = refl;
        words = same.1;
      }
  ends_alike start words more rounds one other Done Infeasible a b =
      absurd (omega (arith, b.some_round, no_rounds s gives after measured start words one.log one.history one.archive.members rounds b.refuted.none_valid a))
  ends_alike start words more rounds one other Infeasible Done a b =
      absurd (omega (arith, a.some_round, no_rounds s gives after measured start more other.log other.history other.archive.members rounds a.refuted.none_valid b))
  ends_alike start words more rounds one other Infeasible Infeasible a b = record {
    history = a.no_history ∙ sym b.no_history;
    members = a.no_members ∙ sym b.no_members;
    end = refl;
    words = a.words_are ∙ sym b.words_are;
  }

pub run_is_one : {S : Type 0} (gives : S → ℕ) (after : S → S) → RunIsOne gives after
run_is_one gives after s measured start words more rounds one other a b = ends_alike s gives after measured start words more rounds one other one.end other.end a b
