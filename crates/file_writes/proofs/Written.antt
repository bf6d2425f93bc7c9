-- Files that are written one after another.
use Rattle.std.proofs.Common.{◌≡◌, ◌≢◌, ◌++◌, ◌∷◌, [], ◌+◌, ◌∙◌, ℕ, suc, Bool, true, false, List, Option, Some, None, All, cond, length, get_or, take, drop, refl, sym, ap, subst, inl, inr, arith, unwrap_or}
use Rattle.std.specs.Str.{bytes_eq}
use Rattle.std.proofs.lemmas.List.{take-append-le, take_all}
use Rattle.std.proofs.lemmas.List.Elements.{All-nil, All-cons, All-push}
use Rattle.std.proofs.lemmas.Slice.Eq.{bytes_eq-Decides}
use Rattle.desk_io.specs.Files.{Files, HasDistinctNames, file_at}
use Rattle.file_writes.specs.Writes.{Becomes, KeepsOrBecomesPart, Rewrites, IsWritten, IsPartlyWritten, KeepOthers, AreWritten, ArePartlyWritten}

abbrev File : Type 0
File = List ℕ × List ℕ

-- ---- names

apart : (a b : List ℕ) → bytes_eq a b ≡ false → b ≢ a
apart a b e q = let t : bytes_eq a b ≡ true = (bytes_eq-Decides a b).1 (sym q) in absurd (cc)

differ : (a b : List ℕ) → b ≢ a → bytes_eq a b ≡ false
differ a b ne =
    let go : (r : Bool) → bytes_eq a b ≡ r → r ≡ false = elim [ true ↦ λ e. absurd (ne (sym ((bytes_eq-Decides a b).0 e))) | false ↦ λ e. refl ] in
    go (bytes_eq a b) refl

-- what isn't among a file and others is that file's name no more
head_apart : (f : File) (fs : Files) (name : List ℕ) → file_at (f ∷ fs) name ≡ None → (bytes_eq name f.0 ≡ false) × (file_at fs name ≡ None)
head_apart f fs name =
    let go : (r : Bool) → bytes_eq name f.0 ≡ r → cond r (Some f.1) (file_at fs name) ≡ None → (bytes_eq name f.0 ≡ false) × (file_at fs name ≡ None) =
    elim [ true ↦ λ is e. absurd (cc) | false ↦ λ is e. (is, e) ] in
    go (bytes_eq name f.0) refl

none_at : (files : Files) (name : List ℕ) → file_at files name ≡ None → All (λ f. f.0 ≢ name) files
none_at [] name e = All-nil (λ f. f.0 ≢ name)
none_at (f ∷ fs) name e = let h = head_apart f fs name e in All-cons (λ (g : File). g.0 ≢ name) f fs (apart name f.0 h.0) (none_at fs name h.1)

-- a name that isn't among files and one more
split_at : (done : Files) (file : File) (rest : Files) (name : List ℕ) → file_at (done ++ file ∷ rest) name ≡ None → (file_at done name ≡ None) × (file.0 ≢ name)
split_at [] file rest name e = (refl, apart name file.0 (head_apart file rest name e).0)
split_at (f ∷ fs) file rest name e =
    let h = head_apart f (fs ++ file ∷ rest) name e in
    let r = split_at fs file rest name h.1 in
    (rw h.0 r.0, r.1)

-- the next name isn't among those before
pub next_new : (done : Files) (file : File) (rest : Files) → HasDistinctNames (done ++ file ∷ rest) → file_at done file.0 ≡ None
next_new [] file rest d = refl
next_new (f ∷ fs) file rest d =
    let r = split_at fs file rest f.0 d.0 in
    let e : bytes_eq file.0 f.0 ≡ false = differ file.0 f.0 (λ q. r.1 (sym q)) in
    rw e (next_new fs file rest d.1)

-- ---- lists cut at a place

take_one : (done : Files) (file : File) (rest : Files) → take (length done + 1) (done ++ file ∷ rest) ≡ done ++ file ∷ []
take_one [] file rest = refl
take_one (f ∷ fs) file rest =
    let e : length (f ∷ fs) + 1 ≡ suc (length fs + 1) = omega arith in
    ap (λ (n : ℕ). take n (f ∷ (fs ++ file ∷ rest))) e ∙ ap (λ (gs : Files). f ∷ gs) (take_one fs file rest)

drop_front : (done rest : Files) → drop (length done) (done ++ rest) ≡ rest
drop_front [] rest = refl
drop_front (f ∷ fs) rest = drop_front fs rest

drop_whole : (files : Files) → drop (length files) files ≡ []
drop_whole [] = refl
drop_whole (f ∷ fs) = drop_whole fs

-- ---- one step

-- those before stay as they are
stay : (done : Files) (file : File) (C : List ℕ → List ℕ → Type 0) (start mid new : Files) → file_at done file.0 ≡ None → AreWritten done start mid → Rewrites file.0 C mid new
    → All (IsWritten start new) done
stay done file C start mid new fresh h r = λ k d l.
    ap (λ (o : Option (List ℕ)). unwrap_or o []) (r.others (get_or done k d).0 (none_at done file.0 fresh k d l)) ∙ h.all k d l

others_stay : (done : Files) (file : File) (C : List ℕ → List ℕ → Type 0) (start mid new : Files) → AreWritten done start mid → Rewrites file.0 C mid new → KeepOthers start new (done ++ file ∷ [])
others_stay done file C start mid new h r = λ name e.
    let s = split_at done file [] name e in
    r.others name (λ q. s.1 (sym q)) ∙ h.others name s.0

pub step : (done : Files) (file : File) (start mid new : Files) → file_at done file.0 ≡ None → AreWritten done start mid → Rewrites file.0 (Becomes file.1) mid new
    → AreWritten (done ++ file ∷ []) start new
step done file start mid new fresh h r = record {
  all = All-push (IsWritten start new) done file (stay done file (Becomes file.1) start mid new fresh h r) r.here;
  others = others_stay done file (Becomes file.1) start mid new h r;
}

-- what the file at a place has, where its writing was cut short
part_here : (done : Files) (file : File) (start mid new : Files) → file_at done file.0 ≡ None → AreWritten done start mid → Rewrites file.0 (KeepsOrBecomesPart file.1) mid new
    → IsPartlyWritten start new file
part_here done file start mid new fresh h r = elim r.here [
  | inl kept ↦ inl (kept ∙ ap (λ (o : Option (List ℕ)). unwrap_or o []) (h.others file.0 fresh))
  | inr part ↦ inr part
]

pub cut : (done : Files) (file : File) (rest start mid new : Files) → file_at done file.0 ≡ None → AreWritten done start mid → Rewrites file.0 (KeepsOrBecomesPart file.1) mid new
    → ArePartlyWritten (done ++ file ∷ rest) start new
cut done file rest start mid new fresh h r =
    let taken : take (length done) (done ++ file ∷ rest) ≡ done = take-append-le (length done) done (file ∷ rest) (omega arith) ∙ take_all (length done) done (omega arith) in
    let begun : take (length done + 1) (done ++ file ∷ rest) ≡ done ++ file ∷ [] = take_one done file rest in
    let left : drop (length done) (done ++ file ∷ rest) ≡ file ∷ rest = drop_front done (file ∷ rest) in
    record {
      place = length done;
      all = subst (λ (fs : Files). All (IsWritten start new) fs) (sym taken) (stay done file (KeepsOrBecomesPart file.1) start mid new fresh h r);
      part =
          subst (λ (fs : Files). All (IsPartlyWritten start new) (take 1 fs)) (sym left) (All-cons (IsPartlyWritten start new) file [] (part_here done file start mid new fresh h r)
          (All-nil (IsPartlyWritten start new)));
      others = subst (λ (fs : Files). KeepOthers start new fs) (sym begun) (others_stay done file (KeepsOrBecomesPart file.1) start mid new h r);
    }

-- all were written, and no more was done
pub whole : (writes start new : Files) → AreWritten writes start new → ArePartlyWritten writes start new
whole writes start new h =
    let all : take (length writes) writes ≡ writes = take_all (length writes) writes (omega arith) in
    let more : take (length writes + 1) writes ≡ writes = take_all (length writes + 1) writes (omega arith) in
    let none : drop (length writes) writes ≡ [] = drop_whole writes in
    record {
      place = length writes;
      all = subst (λ (fs : Files). All (IsWritten start new) fs) (sym all) h.all;
      part = subst (λ (fs : Files). All (IsPartlyWritten start new) (take 1 fs)) (sym none) (All-nil (IsPartlyWritten start new));
      others = subst (λ (fs : Files). KeepOthers start new fs) (sym more) h.others;
    }
