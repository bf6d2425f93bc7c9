-- The request of a line that was read.
use Rattle.std.proofs.Common.{◌≡◌, refl, List, Some, None, codes}
use Rattle.clap.specs.Words.{first_value, found_of}
use Rattle.clap.specs.declared.parser.matches.ArgMatches.{ArgMatches}
use Rattle.form_words.specs.Line.{Text}
use Rattle.form_words.specs.Reads.{Reads}
use Rattle.form_words.specs.Table.{form_of}
use Rattle.run_words.specs.Decoding.{decode_request, decode_table, decode_with}
use Rattle.run_words.specs.Exploring.{explore_request, explore_table, explore_with}
use Rattle.run_words.specs.Fronting.{front_request, front_table, front_with}
use Rattle.run_words.specs.Checking.{check_request, check_table, check_with}
use Rattle.run_words.specs.Making.{make_request, make_table, make_with}

pub asked_none : (words : List Text) → Reads (form_of decode_table) words None → decode_request words ≡ None
unfolding decode_request
asked_none words e = rw e refl

pub asked : (words : List Text) (m : ArgMatches) → Reads (form_of decode_table) words (Some m)
    → decode_request words ≡ decode_with (first_value (found_of m) (codes "tgff")) (first_value (found_of m) (codes "arch")) (first_value (found_of m) (codes "geno"))
    (first_value (found_of m) (codes "budget")) (first_value (found_of m) (codes "proof"))
unfolding decode_request
asked words m h = rw (h.1, h.2 (codes "tgff"), h.2 (codes "arch"), h.2 (codes "geno"), h.2 (codes "budget"), h.2 (codes "proof")) refl

pub explore_asked_none : (tags words : List Text) → Reads (form_of explore_table) words None → explore_request tags words ≡ None
unfolding explore_request
explore_asked_none tags words e = rw e refl

pub explore_asked : (tags words : List Text) (m : ArgMatches) → Reads (form_of explore_table) words (Some m)
    → explore_request tags words ≡ explore_with tags (first_value (found_of m) (codes "tgff")) (first_value (found_of m) (codes "arch")) (first_value (found_of m) (codes "rounds"))
    (first_value (found_of m) (codes "seed")) (first_value (found_of m) (codes "measure")) (first_value (found_of m) (codes "proof"))
unfolding explore_request
explore_asked tags words m h = rw (h.1, h.2 (codes "tgff"), h.2 (codes "arch"), h.2 (codes "rounds"), h.2 (codes "seed"), h.2 (codes "measure"), h.2 (codes "proof")) refl

pub front_asked_none : (words : List Text) → Reads (form_of front_table) words None → front_request words ≡ None
unfolding front_request
front_asked_none words e = rw e refl

pub front_asked : (words : List Text) (m : ArgMatches) → Reads (form_of front_table) words (Some m)
    → front_request words ≡ front_with (first_value (found_of m) (codes "tgff")) (first_value (found_of m) (codes "arch")) (first_value (found_of m) (codes "front"))
    (first_value (found_of m) (codes "proof")) (first_value (found_of m) (codes "budget"))
unfolding front_request
front_asked words m h = rw (h.1, h.2 (codes "tgff"), h.2 (codes "arch"), h.2 (codes "front"), h.2 (codes "proof"), h.2 (codes "budget")) refl

pub check_asked_none : (words : List Text) → Reads (form_of check_table) words None → check_request words ≡ None
unfolding check_request
check_asked_none words e = rw e refl

pub check_asked : (words : List Text) (m : ArgMatches) → Reads (form_of check_table) words (Some m)
    → check_request words ≡ check_with (first_value (found_of m) (codes "tgff")) (first_value (found_of m) (codes "arch")) (first_value (found_of m) (codes "front"))
    (first_value (found_of m) (codes "proof"))
unfolding check_request
check_asked words m h = rw (h.1, h.2 (codes "tgff"), h.2 (codes "arch"), h.2 (codes "front"), h.2 (codes "proof")) refl

pub make_asked_none : (words : List Text) → Reads (form_of make_table) words None → make_request words ≡ None
unfolding make_request
make_asked_none words e = rw e refl

pub make_asked : (words : List Text) (m : ArgMatches) → Reads (form_of make_table) words (Some m)
    → make_request words ≡ make_with (first_value (found_of m) (codes "number")) (first_value (found_of m) (codes "arch")) (first_value (found_of m) (codes "rounds"))
unfolding make_request
make_asked words m h = rw (h.1, h.2 (codes "number"), h.2 (codes "arch"), h.2 (codes "rounds")) refl
