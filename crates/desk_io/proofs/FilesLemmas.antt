-- A write to one of the files leaves the others, and the names distinct.
use Rattle.std.proofs.Common.{◌≡◌, ◌≢◌, ℕ, Bool, true, false, cond, List, [], ◌∷◌, ◌++◌, Some, None, IsSome, refl, sym, ◌∙◌, ap}
use Rattle.std.specs.Map.{lookup, set_value}
use Rattle.std.specs.Str.{bytes_eq}
use Rattle.std.proofs.lemmas.Cmp.{nat_list_eq_equiv}
use Rattle.std.proofs.lemmas.Map.{lookup-set_value}
use Rattle.std.proofs.lemmas.Slice.Eq.{bytes_eq-Decides}
use Rattle.desk_io.specs.Files.{Files, HasDistinctNames, file_at, Written}

same : (name : List ℕ) → bytes_eq name name ≡ true
same name = (bytes_eq-Decides name name).1 refl

differ : (a b : List ℕ) → a ≢ b → bytes_eq a b ≡ false
differ a b ne =
    let go : (r : Bool) → bytes_eq a b ≡ r → r ≡ false = elim [ true ↦ λ e. absurd (ne ((bytes_eq-Decides a b).0 e)) | false ↦ λ e. refl ] in
    go (bytes_eq a b) refl

-- ---- a file at the end

lookup-push_here : (test : List ℕ → Bool) (files : Files) (name bytes : List ℕ) → lookup test files ≡ None → test name ≡ true → lookup test (files ++ (name, bytes) ∷ []) ≡ Some bytes
lookup-push_here test [] name bytes = λ e is. rw is refl
lookup-push_here test (f ∷ fs) name bytes =
    let go : (b : Bool) → cond b (Some f.1) (lookup test fs) ≡ None → test name ≡ true → cond b (Some f.1) (lookup test (fs ++ (name, bytes) ∷ [])) ≡ Some bytes =
    elim [ true ↦ λ e is. cc | false ↦ λ e is. lookup-push_here test fs name bytes e is ] in
    go (test f.0)

lookup-push_other : (test : List ℕ → Bool) (files : Files) (name bytes : List ℕ) → test name ≡ false → lookup test (files ++ (name, bytes) ∷ []) ≡ lookup test files
lookup-push_other test [] name bytes e = rw e refl
lookup-push_other test (f ∷ fs) name bytes e = ap (λ c. cond (test f.0) (Some f.1) c) (lookup-push_other test fs name bytes e)

-- a name that is there no more than the new one
distinct_push : (files : Files) (name bytes : List ℕ) → HasDistinctNames files → file_at files name ≡ None → HasDistinctNames (files ++ (name, bytes) ∷ [])
distinct_push [] name bytes distinct = λ gone. (refl, tt)
distinct_push (f ∷ fs) name bytes distinct =
    let go : (b : Bool) → bytes_eq name f.0 ≡ b → cond b (Some f.1) (file_at fs name) ≡ None → HasDistinctNames (f ∷ fs ++ (name, bytes) ∷ []) = elim [
      | true ↦ λ is e. cc
      | false ↦ λ is e. (lookup-push_other (bytes_eq f.0) fs name bytes (nat_list_eq_equiv.symm f.0 name ∙ is) ∙ distinct.0, distinct_push fs name bytes distinct.1 e)
    ] in
    go (bytes_eq name f.0) refl

-- ---- new bytes for a file

lookup-set_value_none : (test other : List ℕ → Bool) (files : Files) (bytes : List ℕ) → lookup other files ≡ None → lookup other (set_value test files bytes) ≡ None
lookup-set_value_none test other [] bytes = λ none. refl
lookup-set_value_none test other (f ∷ fs) bytes =
    let go : (a b : Bool) → other f.0 ≡ b → cond b (Some f.1) (lookup other fs) ≡ None → lookup other (cond a ((f.0, bytes) ∷ fs) (f ∷ set_value test fs bytes)) ≡ None = elim [
      | true ↦ elim [ true ↦ λ is e. cc | false ↦ λ is e. rw is e ]
      | false ↦ elim [ true ↦ λ is e. cc | false ↦ λ is e. rw is (lookup-set_value_none test other fs bytes e) ]
    ] in
    go (test f.0) (other f.0) refl

distinct_set_value : (test : List ℕ → Bool) (files : Files) (bytes : List ℕ) → HasDistinctNames files → HasDistinctNames (set_value test files bytes)
distinct_set_value test [] bytes distinct = tt
distinct_set_value test (f ∷ fs) bytes distinct =
    let go : (b : Bool) → HasDistinctNames (cond b ((f.0, bytes) ∷ fs) (f ∷ set_value test fs bytes)) = elim [
      | true ↦ distinct
      | false ↦ (lookup-set_value_none test (bytes_eq f.0) fs bytes distinct.0, distinct_set_value test fs bytes distinct.1)
    ] in
    go (test f.0)

file_at-set_value : (files : Files) (name bytes other : List ℕ) → IsSome (file_at files name) → file_at (set_value (bytes_eq name) files bytes) other
    ≡ cond (bytes_eq name other) (Some bytes) (file_at files other)
file_at-set_value files name bytes other there = lookup-set_value nat_list_eq_equiv (bytes_eq name) (λ x y. nat_list_eq_equiv.congr name x y) other bytes files there

-- ---- both

pub written_over : (files : Files) (name bytes : List ℕ) → HasDistinctNames files → IsSome (file_at files name) → Written files (set_value (bytes_eq name) files bytes) name bytes
written_over files name bytes distinct there = record {
  here = file_at-set_value files name bytes name there ∙ rw (same name) refl;
  others = λ other ne. file_at-set_value files name bytes other there ∙ rw (differ name other (λ e. ne (sym e))) refl;
  distinct = distinct_set_value (bytes_eq name) files bytes distinct;
}

-- a file that wasn't there is written behind the others
pub written_anew : (files : Files) (name bytes : List ℕ) → HasDistinctNames files → file_at files name ≡ None → Written files (files ++ (name, bytes) ∷ []) name bytes
written_anew files name bytes distinct gone = record {
  here = lookup-push_here (bytes_eq name) files name bytes gone (same name);
  others = λ other ne. lookup-push_other (bytes_eq other) files name bytes (differ other name ne);
  distinct = distinct_push files name bytes distinct gone;
}
