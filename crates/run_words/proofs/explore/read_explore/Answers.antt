use Rattle.std.proofs.Common.{◌∙◌, sym, ap, subst, map, option_map, string_bytes, Option}
use Rattle.std.proofs.lemmas.Result.{IfOk-weaker}
use Rattle.clap.specs.declared.parser.matches.ArgMatches.{ArgMatches}
use Rattle.form_words.specs.Reads.{Reads}
use Rattle.form_words.specs.Table.{form_of}
use Rattle.run_words.specs.Exploring.{ExploringValue, explore_table}
use Rattle.run_words.specs.Values.{explore}
use Rattle.run_words.proofs.Asked.{explore_asked_none, explore_asked}
use Rattle.run_words.proofs.explore.read_explore.Goals as goal

pub returns-in_default : goal.returns-in_default
returns-in_default c =
    let words = map string_bytes c.args.words.now in
    let tags = map string_bytes c.args.tags.now in
    sym (ap (option_map explore) (explore_asked_none tags words (subst (λ (o : Option ArgMatches). Reads (form_of explore_table) words o) c.in_default.is c.in_ok-matches.ensures)))

pub returns : goal.returns
returns c =
    let words = map string_bytes c.args.words.now in
    let tags = map string_bytes c.args.tags.now in
    let reads = subst (λ (o : Option ArgMatches). Reads (form_of explore_table) words o) c.in-Some.is c.in_ok-matches.ensures in
    let is = ap (λ (r : Option ExploringValue). option_map explore r) (explore_asked tags words c.in-Some.matches reads) in
    IfOk-weaker c.explore_with.result _ _
    (λ r h. h ∙ rw (c.get_str.ensures, c.get_str-2.ensures, c.get_str-3.ensures, c.get_str-4.ensures, c.get_str-5.ensures, c.get_str-6.ensures) (sym is))
    c.explore_with.ensures
