use Rattle.std.proofs.Common.{◌∙◌, map, string_bytes}
use Rattle.std.specs.Str.{IsUtf8}
use Rattle.std.proofs.lemmas.Result.{IfOk-weaker}
use Rattle.clap.specs.Simple.{app_of}
use Rattle.form_words.proofs.Forms.{all_mapped, passed, refused_none}
use Rattle.form_words.proofs.parse.Goals as goal

pub returns-in-Ok-clause-parses : goal.returns-in-Ok-clause-parses
returns-in-Ok-clause-parses c = passed (app_of c.args.command) (map string_bytes c.args.words.now) c.in-Ok.matches c.requires.simple (c.in-Ok.ensures.kinds c.requires.free) c.in-Ok.ensures.matches

pub returns-in-Ok-clause-texts : goal.returns-in-Ok-clause-texts
returns-in-Ok-clause-texts c = all_mapped IsUtf8 string_bytes c.args.words.now c.are_texts.ensures

pub returns-in-Err-clause-parses : goal.returns-in-Err-clause-parses
returns-in-Err-clause-parses c = IfOk-weaker c.refusal.result _ _
    (λ o h. refused_none (app_of c.args.command) (map string_bytes c.args.words.now) c.in-Err.error o (c.in-Err.ensures.kinds c.requires.free) (λ e. h.0 (c.kind.ensures ∙ e)) h.1)
    c.refusal.ensures

pub returns-in-Err-clause-texts : goal.returns-in-Err-clause-texts
returns-in-Err-clause-texts c = all_mapped IsUtf8 string_bytes c.args.words.now c.are_texts.ensures
