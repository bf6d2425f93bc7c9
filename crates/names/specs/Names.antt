-- Names and their numbers.
use Rattle.std.specs.Prelude.{◌≡◌, ℕ, ◌<◌, List, length, Bool, true, ◌&&◌, nat_le}
use Rattle.std.specs.List.{position_or_len, list_all}
use Rattle.std.specs.Str.{bytes_eq}
use Rattle.spec_model.specs.Spec.{Name, name_at}

-- a byte that a name may have: 33 to 126
abbrev pub is_name_byte : ℕ → Bool
is_name_byte b = nat_le 33 b && nat_le b 126

-- a name is at least one byte, each from 33 to 126, so that it is one word of a text
pub record IsName (name : Name) : Type 0 where
  pub some : 0 < length name
  pub bytes : list_all is_name_byte name ≡ true

-- the first place of a name, or the number of names where it isn't there
abbrev pub number_by_name : List Name → Name → ℕ
number_by_name names name = position_or_len (bytes_eq name) names

-- n is the number of a name: the name stands at n, and at no earlier place
pub record IsNumberOf (names : List Name) (name : Name) (n : ℕ) : Type 0 where
  pub within : n < length names
  pub same : name_at names n ≡ name
  pub first : n ≡ number_by_name names name
