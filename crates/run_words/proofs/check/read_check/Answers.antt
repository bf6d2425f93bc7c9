use Rattle.std.proofs.Common.{◌∙◌, sym, ap, subst, map, option_map, string_bytes, Option}
use Rattle.std.proofs.lemmas.Result.{IfOk-weaker}
use Rattle.clap.specs.declared.parser.matches.ArgMatches.{ArgMatches}
use Rattle.form_words.specs.Reads.{Reads}
use Rattle.form_words.specs.Table.{form_of}
use Rattle.run_words.specs.Checking.{CheckValue, check_table}
use Rattle.run_words.specs.Values.{check}
use Rattle.run_words.proofs.Asked.{check_asked_none, check_asked}
use Rattle.run_words.proofs.check.read_check.Goals as goal

pub returns-in_default : goal.returns-in_default
returns-in_default c =
    let words = map string_bytes c.args.words.now in
    sym (ap (option_map check) (check_asked_none words (subst (λ (o : Option ArgMatches). Reads (form_of check_table) words o) c.in_default.is c.in_ok-matches.ensures)))

pub returns : goal.returns
returns c =
    let words = map string_bytes c.args.words.now in
    let reads = subst (λ (o : Option ArgMatches). Reads (form_of check_table) words o) c.in-Some.is c.in_ok-matches.ensures in
    let is = ap (λ (r : Option CheckValue). option_map check r) (check_asked words c.in-Some.matches reads) in
    IfOk-weaker c.check_with.result _ _
    (λ r h. h ∙ rw (c.get_str.ensures, c.get_str-2.ensures, c.get_str-3.ensures, c.get_str-4.ensures) (sym is))
    c.check_with.ensures
