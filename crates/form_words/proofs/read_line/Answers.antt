use Rattle.std.proofs.Common.{map, string_bytes, subst}
use Rattle.std.proofs.lemmas.Result.{IfOk-weaker}
use Rattle.clap.specs.Simple.{App}
use Rattle.form_words.specs.Commands.{ParsesTo}
use Rattle.form_words.specs.Table.{table_of}
use Rattle.form_words.proofs.TableForms.{table_reads}
use Rattle.form_words.proofs.read_line.Goals as goal

pub returns : goal.returns
returns c = IfOk-weaker c.parse.result _ _
    (λ o h. table_reads c.args.title.now (table_of c.args.places.now c.args.options.now) c.requires (map string_bytes c.args.words.now) c.parse.ensures.texts o
    (subst (λ (a : App). ParsesTo a (map string_bytes c.args.words.now) o) c.in_ok-command.ensures h))
    c.parse.ensures.parses
