use Rattle.std.proofs.Common.{◌∙◌, sym, ap, subst, map, option_map, string_bytes, Option}
use Rattle.std.proofs.lemmas.Result.{IfOk-weaker}
use Rattle.clap.specs.declared.parser.matches.ArgMatches.{ArgMatches}
use Rattle.form_words.specs.Reads.{Reads}
use Rattle.form_words.specs.Table.{form_of}
use Rattle.run_words.specs.Making.{MakingValue, make_table}
use Rattle.run_words.specs.Values.{make}
use Rattle.run_words.proofs.Asked.{make_asked_none, make_asked}
use Rattle.run_words.proofs.make.read_make.Goals as goal

pub returns-in_default : goal.returns-in_default
returns-in_default c =
    let words = map string_bytes c.args.words.now in
    sym (ap (option_map make) (make_asked_none words (subst (λ (o : Option ArgMatches). Reads (form_of make_table) words o) c.in_default.is c.in_ok-matches.ensures)))

pub returns : goal.returns
returns c =
    let words = map string_bytes c.args.words.now in
    let reads = subst (λ (o : Option ArgMatches). Reads (form_of make_table) words o) c.in-Some.is c.in_ok-matches.ensures in
    let is = ap (λ (r : Option MakingValue). option_map make r) (make_asked words c.in-Some.matches reads) in
    IfOk-weaker c.make_with.result _ _
    (λ r h. h ∙ rw (c.get_str.ensures, c.get_str-2.ensures, c.get_str-3.ensures) (sym is))
    c.make_with.ensures
