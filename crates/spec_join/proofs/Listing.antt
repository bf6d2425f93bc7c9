-- Lists of names, and the numbers of the names.
use Rattle.std.proofs.Common.{◌≡◌, ℕ, ◌+◌, true, false, List, [], ◌∷◌, ◌++◌, length, get_or, take, map, refl, sym, ap, subst, ◌∙◌, arith, All, Contains, ◌<◌, ◌≤◌, ◌⊎◌, inl, inr}
use Rattle.std.specs.Str.{bytes_eq}
use Rattle.std.proofs.lemmas.Slice.Eq.{bytes_eq-Decides}
use Rattle.std.proofs.lemmas.Bool.{cases_lt, false≢true}
use Rattle.std.proofs.lemmas.List.{get_or-map, length-map, map_push, take_more, take_all}
use Rattle.std.proofs.lemmas.List.Elements.{All-push}
use Rattle.std.proofs.lemmas.List.Sums.{fails_before_first, passes_at_first}
use Rattle.names.specs.Names.{IsNumberOf, number_by_name}
use Rattle.spec_model.specs.Spec.{Name, name_at}
use Rattle.spec_model.specs.WellFormed.{AreDistinct}
use Rattle.spec_graph.specs.Refusals.{HasTwice}
use Rattle.spec_join.specs.Refusals.{HasMissing, IsListedTwice}

-- a name that is there has a number
pub number_there : (names : List Name) (name : Name) → Contains names name → IsNumberOf names name (number_by_name names name)
number_there names name h = go (cases_lt (number_by_name names name) (length names))
  where
    n : ℕ
    n = number_by_name names name

    not_past : length names ≤ n → ⊥
    not_past l =
        let f : bytes_eq name (get_or names h.0 name) ≡ false = fails_before_first (bytes_eq name) names h.0 name (omega (arith, h.1, l)) in
        let t : bytes_eq name (get_or names h.0 name) ≡ true = (bytes_eq-Decides name (get_or names h.0 name)).1 (sym h.2) in
        false≢true (sym f ∙ t)

    go : (n < length names) ⊎ (length names ≤ n) → IsNumberOf names name n
    go (inl l) = record { within = l; same = sym ((bytes_eq-Decides name (name_at names n)).0 (passes_at_first (bytes_eq name) names [] l)); first = refl }
    go (inr l) = absurd (not_past l)

-- two names of one number are one name
pub same_name : (names : List Name) (a b : Name) → Contains names a → Contains names b → number_by_name names a ≡ number_by_name names b → a ≡ b
same_name names a b x y e = sym (number_there names a x).same ∙ ap (λ (n : ℕ). name_at names n) e ∙ (number_there names b y).same

-- the number at a place of a list of names
number_at : (names listed : List Name) (k : ℕ) → k < length listed → get_or (map (number_by_name names) listed) k 0 ≡ number_by_name names (name_at listed k)
number_at names listed k l = get_or-map (number_by_name names) listed k [] 0 l

-- where all names are there, a number is listed twice where a name is
pub twice_of : (names listed : List Name) → All (Contains names) listed → HasTwice (map (number_by_name names) listed) → IsListedTwice listed
twice_of names listed known h =
    let w : h.second < length listed = omega (arith, h.within, length-map listed (number_by_name names)) in
    let v : h.first < length listed = omega (arith, h.before, w) in
    record {
      first = h.first;
      second = h.second;
      before = h.before;
      within = w;
      same = same_name names (name_at listed h.first) (name_at listed h.second) (known h.first [] v) (known h.second [] w)
          (sym (number_at names listed h.first v) ∙ h.same ∙ number_at names listed h.second w);
    }

pub twice_by : (names listed : List Name) → IsListedTwice listed → HasTwice (map (number_by_name names) listed)
twice_by names listed h =
    let v : h.first < length listed = omega (arith, h.before, h.within) in
    record {
      first = h.first;
      second = h.second;
      before = h.before;
      within = omega (arith, h.within, length-map listed (number_by_name names));
      same = number_at names listed h.first v ∙ ap (number_by_name names) h.same ∙ sym (number_at names listed h.second h.within);
    }

-- where all names are there, none is missing
pub none_missing : (names listed : List Name) → All (Contains names) listed → HasMissing names listed → ⊥
none_missing names listed known h = h.4 (subst (Contains names) h.3 (known h.0 h.1 h.2))

-- one more name, and its number behind the others
pub numbers_more : {X : Type 0} (number : X → ℕ) (names listed : List Name) (i : ℕ) (items new : List X) (item : X) (name said : Name) → i < length listed → new ≡ items ++ item ∷ []
    → name ≡ get_or listed i name → said ≡ name → number item ≡ number_by_name names said
    → map number items ≡ map (number_by_name names) (take i listed) → map number new ≡ map (number_by_name names) (take (i + 1) listed)
numbers_more number names listed i items new item name said l e en es n h =
    let last : number item ≡ number_by_name names (get_or listed i name) = n ∙ ap (number_by_name names) (es ∙ en) in
    ap (map number) e
    ∙ map_push number items item
    ∙ ap (λ (xs : List ℕ). xs ++ number item ∷ []) h
    ∙ ap (λ (k : ℕ). map (number_by_name names) (take i listed) ++ k ∷ []) last
    ∙ sym (map_push (number_by_name names) (take i listed) (get_or listed i name))
    ∙ ap (map (number_by_name names)) (sym (take_more listed i name l))

pub there_more : {X : Type 0} (P : X → Type 0) (items new : List X) (item : X) → new ≡ items ++ item ∷ [] → All P items → P item → All P new
there_more P items new item e h p = subst (All P) (sym e) (All-push P items item h p)

pub known_more : (names listed : List Name) (i : ℕ) (name said : Name) → i < length listed → name ≡ get_or listed i name → said ≡ name → Contains names said → All (Contains names) (take i listed)
    → All (Contains names) (take (i + 1) listed)
known_more names listed i name said l en es c h =
    subst (All (Contains names)) (sym (take_more listed i name l)) (All-push (Contains names) (take i listed) (get_or listed i name) h (subst (Contains names) (es ∙ en) c))

pub all_known : (names listed : List Name) (i : ℕ) → length listed ≤ i → All (Contains names) (take i listed) → All (Contains names) listed
all_known names listed i l h = subst (All (Contains names)) (take_all i listed l) h

-- a number has one place among distinct names
pub one_number : (names : List Name) (name : Name) (m n : ℕ) → AreDistinct names → IsNumberOf names name n → m < length names → name_at names m ≡ name → m ≡ n
one_number names name m n d h l e = go (cases_lt m n) (cases_lt n m)
  where
    go : (m < n) ⊎ (n ≤ m) → (n < m) ⊎ (m ≤ n) → m ≡ n
    go (inl x) y = absurd (d m n [] x h.within (e ∙ sym h.same))
    go (inr x) (inl y) = absurd (d n m [] y l (h.same ∙ sym e))
    go (inr x) (inr y) = omega (arith, x, y)
