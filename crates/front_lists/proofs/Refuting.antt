-- Lines that refute all but what the found vectors cover refute all but the front.
use Rattle.std.proofs.Common.{◌^◌, take, ◌≡◌, ℕ, zero, suc, ◌<◌, ◌≤◌, Bool, true, false, cond, List, length, get_or, refl, sym, ap, ◌∙◌, subst, arith, add-one}
use Rattle.std.specs.Prelude.{All, Contains, slice_index}
use Rattle.std.specs.List.{sum_by}
use Rattle.std.proofs.lemmas.List.FromFn.{get_or-map-range_with_len}
use Rattle.std.proofs.lemmas.List.{get_or_default}
use Rattle.std.proofs.lemmas.List.Elements.{All-weaker, All-contains}
use Rattle.pb_rules.specs.Frames.{Line, derived, cover}
use Rattle.spec_model.specs.Spec.{SpecValue, Bits, bits_of, below, design_variables}
use Rattle.spec_model.specs.Vectors.{weight, weight_if_true, vector_at, vector_of}
use Rattle.encode_model.specs.Block.{total_weight, IsWithinWeights}
use Rattle.spec_model.proofs.Those.{sum_by-below_more}
use Rattle.block_encode.proofs.Adding.{total_small}
use Rattle.spec_model.specs.WellFormed.{IsWellFormed}
use Rattle.result_text.specs.Answers.{EntryValue}
use Rattle.result_text.specs.Fronts.{IsShaped}
use Rattle.front_model.specs.Proofs.{HasBelow, MayCover, MayStand}
use Rattle.spec_model.proofs.Vectors.{at_most_through}
use Rattle.front_model.proofs.Exact.{vector_long}
use Rattle.front_lists.specs.Lists.{IsNext, FoundPrefix, vectors_in, AreUndominated, front_with}
use Rattle.front_lists.specs.Laws.{FoundAreShaped, UndominatedRefute, TextsAreAccepted}
use Rattle.front_lists.proofs.Kept.{entry_there, found_entry, found_have_below, undominated_are_claim}

-- ---- no number of a design's vector is above its objective's weights

part_at_most : (s : SpecValue) (f : Bits) (j x : ℕ) → weight_if_true s f j x ≤ weight s j x
part_at_most s f j x = at (f x)
  where
    at : (b : Bool) → cond b (weight s j x) 0 ≤ weight s j x
    at true = omega arith
    at false = omega arith

sum_at_most : (s : SpecValue) (f : Bits) (j n : ℕ) → sum_by (weight_if_true s f j) (below n) ≤ sum_by (weight s j) (below n)
sum_at_most s f j zero = omega arith
sum_at_most s f j (suc n) =
    subst (λ (k : ℕ). sum_by (weight_if_true s f j) (below k) ≤ sum_by (weight s j) (below k)) (add-one n)
    (omega (arith, sum_by-below_more (weight_if_true s f j) n, sum_by-below_more (weight s j) n, sum_at_most s f j n, part_at_most s f j n))

number_at_most : (s : SpecValue) (f : Bits) (j : ℕ) → vector_at s f j ≤ total_weight s j
unfolding vector_at total_weight
number_at_most s f j = sum_at_most s f j (design_variables s)

-- in each objective a design's number is at most the sum of all weights
pub vector_within : (s : SpecValue) (f : Bits) → IsWithinWeights s (vector_of s f)
vector_within s f j l =
    let there : j < length s.objectives = omega (arith, l, vector_long s f) in
    let read : slice_index (vector_of s f) j ≡ vector_at s f j = get_or-map-range_with_len (vector_at s f) 0 (length s.objectives) j j 0 there (omega arith) in
    omega (arith, read, number_at_most s f j)

-- ---- found entries are of the specification

vector_small : (s : SpecValue) (f : Bits) → IsWellFormed s → All (λ n. n < 2 ^ 63) (vector_of s f)
vector_small s f wf j d l =
    let at : get_or (vector_of s f) j d ≡ get_or (vector_of s f) j 0 = get_or_default (vector_of s f) j d 0 l in
    omega (arith, at, vector_within s f j l, total_small s j wf)

pub next_is_shaped : (s : SpecValue) (us : List (List ℕ)) (e : EntryValue) → IsWellFormed s → IsNext s us e → IsShaped s e
next_is_shaped s us e wf next = record {
  bits = next.one_each;
  one_each = sym (ap length next.stated) ∙ vector_long s (bits_of e.design);
  small = subst (All (λ (n : ℕ). n < 2 ^ 63)) next.stated (vector_small s (bits_of e.design) wf);
}

-- each found entry has the specification's shape
pub found_are_shaped : FoundAreShaped
found_are_shaped s found wf p k d l = next_is_shaped s (vectors_in (take k found)) (get_or found k d) wf (p k d l)

-- ---- each cover may stand

-- the vector of a found entry may be a cover
pub may_cover : (s : SpecValue) (found : List EntryValue) (us : List (List ℕ)) (v : List ℕ) → FoundPrefix s found → Contains (vectors_in found) v → HasBelow us v → MayCover s us v
may_cover s found us v p c b =
    let x = entry_there found v c in
    let is = (found_entry s found x.entry p x.there).stated ∙ x.has in
    record {
      one_each = sym (ap length is) ∙ vector_long s (bits_of x.entry.design);
      within = subst (IsWithinWeights s) is (vector_within s (bits_of x.entry.design));
      dominated = b;
    }

-- what is at most a found vector has an undominated one at most it
stands_too : (s : SpecValue) (found front : List EntryValue) → FoundPrefix s found → AreUndominated found front → (l : Line) → MayStand s (vectors_in found) l → MayStand s (vectors_in front) l
stands_too s found front p kept (derived ops) h = tt
stands_too s found front p kept (cover v) h =
    let b = found_have_below s found front h.dominated.vector p kept h.dominated.there in
    record {
      one_each = h.one_each;
      within = h.within;
      dominated = record { vector = b.vector; there = b.there; below = at_most_through b.vector h.dominated.vector v b.below h.dominated.below };
    }

pub undominated_refute : UndominatedRefute
undominated_refute s found front ls p kept r = record {
  covers = All-weaker (MayStand s (vectors_in found)) (MayStand s (vectors_in front)) (stands_too s found front p kept) ls r.covers;
  early = r.early;
  last = r.last;
  whole = r.whole;
  before = r.before;
  legal = r.legal;
  clash = r.clash;
  gives = r.gives;
  clashes = r.clashes;
}

-- the text of the undominated entries is accepted with that of lines that refute
pub texts_are_accepted : TextsAreAccepted
texts_are_accepted s found front ls wf p kept r = record {
  front = front_with front true;
  text = record {
    entries = λ k d l. All-contains (IsShaped s) found (get_or front k d) (found_are_shaped s found wf p) (kept.only k d l).there;
    text = refl;
  };
  accepted = record {
    claim = undominated_are_claim s found front p kept;
    proof = record { lines = ls; is = refl; refute = undominated_refute s found front ls p kept r };
  };
}
