-- One round: what is drawn, decoded, measured and kept, put together.
use Rattle.std.proofs.Common.{◌≡◌, ◌≢◌, ℕ, ◌+◌, ◌^◌, ◌<◌, ◌≤◌, ◌++◌, not, cond, Bool, true, false, Option, Some, None, List, [], ◌∷◌, length, get_or, All, sym, ap, ◌∙◌, subst, arith, length-append}
use Rattle.std.specs.List.{list_any, filter}
use Rattle.std.proofs.lemmas.List.{length-map}
use Rattle.std.proofs.lemmas.List.Elements.{All-cons, All-append, All-filter}
use Rattle.std.proofs.lemmas.List.FromFn.{length-map-range_with_len}
use Rattle.pb_rules.specs.Frames.{derived_count}
use Rattle.proof_log.specs.Log.{LogValue}
use Rattle.spec_model.specs.Spec.{SpecValue, Bits, bits_of, design_variables}
use Rattle.spec_model.specs.Genotypes.{GeneValue, HasNoValid}
use Rattle.spec_model.specs.Vectors.{vector_at, vector_of}
use Rattle.ordered_solver.specs.Answers.{GoesOnDerived, new_lines}
use Rattle.sat_decoder.specs.Decoding.{DecodedSays, LineCountSays, IsFirstDesign, IsShown}
use Rattle.sat_decoder.specs.declared.decoded.Decoded.{Decoded}
use Rattle.sat_decoder.specs.declared.decoded.Decoded.TheVariants.{First, Nothing, Budget}
use Rattle.front_archive.specs.declared.member.Member.{Member}
use Rattle.front_archive.specs.Members.{covers}
use Rattle.front_archive.specs.Best.{best, offered}
use Rattle.evo_explore.specs.Breeding.{HasGenes, next_genes, after_next}
use Rattle.evo_explore.specs.Counts.{RoseAtMost, picked}
use Rattle.evo_explore.specs.Run.{whole_vector}
use Rattle.evo_explore.specs.Steps.{answer_of, Joins, Stops}
use Rattle.evo_explore.specs.declared.run.Found.{Found}
use Rattle.evo_explore.proofs.Logs.{budget_unreached}

-- ---- the decoder's answer

-- the greatest budget isn't used up
pub never_used_up : (s : SpecValue) (old new : LogValue) (budget : ℕ) (decoded : Decoded) → LineCountSays s budget (length (new_lines old new)) decoded
    → GoesOnDerived old new → 2 ^ 63 ≤ budget → derived_count new.lines < 2 ^ 63 → decoded ≢ Budget
never_used_up s old new budget decoded says goes large small is =
    let used = subst (LineCountSays s budget (length (new_lines old new))) is says in
    budget_unreached old new budget goes used.0 large small

-- the first valid design, where the answer has one
pub first_design : (t s : SpecValue) (genes : List GeneValue) (answer : Option (List Bool)) (design : List Bool) → t ≡ s → answer ≡ Some design
    → DecodedSays t genes (answer_of answer) → IsFirstDesign s genes design
first_design t s genes answer design same is says = subst (λ (u : SpecValue). IsFirstDesign u genes design) same (subst (λ (a : Option (List Bool)). DecodedSays t genes (answer_of a)) is says)

no_design : (t s : SpecValue) (genes : List GeneValue) (answer : Option (List Bool)) → t ≡ s → answer ≡ None → DecodedSays t genes (answer_of answer) → HasNoValid s
no_design t s genes answer same is says = subst HasNoValid same (subst (λ (a : Option (List Bool)). DecodedSays t genes (answer_of a)) is says)

-- ---- counts, vectors and members

-- a place that wasn't counted was counted at most so often
pub none_rose : (n : ℕ) (ps xs : List ℕ) → RoseAtMost n ps xs xs
none_rose n ps xs = record { low = λ k. omega arith; high = λ k. omega arith }

-- how many numbers the vector of a member has
pub whole_width : (s : SpecValue) (f : Bits) (vector numbers chosen : List ℕ) → vector ≡ vector_of s f ++ picked numbers chosen → length vector ≡ length s.objectives + length chosen
whole_width s f vector numbers chosen is =
    let first : length (vector_of s f) ≡ length s.objectives = length-map-range_with_len (vector_at s f) 0 (length s.objectives) in
    let later : length (picked numbers chosen) ≡ length chosen = length-map chosen (λ (p : ℕ). get_or numbers p 0) in
    omega (arith, ap length is, length-append (vector_of s f) (picked numbers chosen), first, later)

-- what holds of the members and of a new one holds after it is offered
all_offered : (P : Member → Type 0) (members : List Member) (m : Member) → All P members → P m → All P (offered covers members m)
all_offered P members m all one = elim (list_any (λ (x : Member). covers x m) members) as (λ (b : Bool). All P (cond b members (filter (λ (x : Member). not (covers m x)) members ++ m ∷ []))) [
  | true ↦ all
  | false ↦ All-append P (filter (λ (x : Member). not (covers m x)) members) (m ∷ [])
      (All-filter (λ (x : Member). not (covers m x)) P members all) (All-cons P m [] one (λ k d l. absurd (omega (arith, l))))
]

pub genes_as : (n k : ℕ) (ms ns : List Member) → n ≡ k → ms ≡ ns → All (HasGenes k) ns → All (HasGenes n) ms
genes_as n k ms ns e same all = subst (All (HasGenes n)) (sym same) (subst (λ (i : ℕ). All (HasGenes i) ns) (sym e) all)

pub genes_kept : (n k : ℕ) (old new : List Member) (m : Member) → new ≡ offered covers old m → length m.genotype ≡ k → k ≡ n → All (HasGenes n) old → All (HasGenes n) new
genes_kept n k old new m is long same all = subst (All (HasGenes n)) (sym is) (all_offered (HasGenes n) old m all (long ∙ same))

-- ---- a round

module _ {S : Type 0} (s : SpecValue) (gives : S → ℕ) (after : S → S) where
  pub stops : (t : SpecValue) (n : ℕ) (members : List Member) (words next : S) (old new : LogValue) (before now : Found) (answer : Option (List Bool)) (genotype : List GeneValue)
      → t ≡ s → n ≡ design_variables s → members ≡ before.archive.members → answer ≡ None
      → next ≡ after_next gives after n members words
      → DecodedSays t genotype (answer_of answer) → GoesOnDerived old new → IsShown t genotype old new (answer_of answer)
      → now ≡ before
      → Stops s gives after words next old new before now
  stops t n members words next old new before now answer genotype same sized seen is used says goes shown still = record {
    refuted = record {
      none_valid = no_design t s genotype answer same is says;
      goes_on = goes;
      genes = genotype;
      shown = subst (λ (u : SpecValue). IsShown u genotype old new Nothing) same (subst (λ (a : Option (List Bool)). IsShown t genotype old new (answer_of a)) is shown);
    };
    words_are = used ∙ (ap (λ (k : ℕ). after_next gives after k members words) sized ∙ ap (λ (ms : List Member). after_next gives after (design_variables s) ms words) seen);
    history = ap (λ (f : Found). f.history) still;
    members = ap (λ (f : Found). f.archive.members) still;
  }

module _ {S : Type 0} (s : SpecValue) (gives : S → ℕ) (after : S → S) (measured : Bits → List ℕ) where
  pub joins : (t : SpecValue) (n : ℕ) (members : List Member) (words next : S) (old new : LogValue) (before now : Found) (answer : Option (List Bool)) (member : Member)
      → t ≡ s → n ≡ design_variables s → members ≡ before.archive.members → answer ≡ Some member.design
      → member.genotype ≡ next_genes gives after n members words → next ≡ after_next gives after n members words
      → DecodedSays t member.genotype (answer_of answer) → GoesOnDerived old new → IsShown t member.genotype old new (answer_of answer)
      → member.vector ≡ whole_vector s measured (bits_of member.design)
      → now.history ≡ before.history ++ member.vector ∷ []
      → ((entries : List Member) → before.archive.members ≡ best covers entries → now.archive.members ≡ best covers (entries ++ member ∷ []))
      → Joins s gives after measured words next old new before now
  joins t n members words next old new before now answer member same sized seen is drawn used says goes shown vector history best_are =
      let first = first_design t s member.genotype answer member.design same is says in
      record {
        member = member;
        genes = drawn ∙ (ap (λ (k : ℕ). next_genes gives after k members words) sized ∙ ap (λ (ms : List Member). next_genes gives after (design_variables s) ms words) seen);
        words_are = used ∙ (ap (λ (k : ℕ). after_next gives after k members words) sized ∙ ap (λ (ms : List Member). after_next gives after (design_variables s) ms words) seen);
        one_each = first.one_each;
        first = first.first;
        vector = vector;
        decodes = record {
          goes_on = goes;
          shown = subst (λ (u : SpecValue). IsShown u member.genotype old new (First member.design)) same
              (subst (λ (a : Option (List Bool)). IsShown t member.genotype old new (answer_of a)) is shown);
        };
        history = history;
        best_are = best_are;
      }
