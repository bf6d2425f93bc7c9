use Rattle.std.proofs.Common.{None, refl, subst, sym}
use Rattle.run_words.specs.Values.{request_value}
use Rattle.run_words.specs.declared.request.Request.{Request}
use Rattle.run_base.specs.declared.inputs.Inputs.{Inputs}
use Rattle.run_base.specs.declared.loading.Loaded.TheVariants.{Bytes}
use Rattle.dse_run.specs.Commands.{AreLoadedFor, no_world}
use Rattle.dse_run.proofs.commands.inputs_for.Goals as goal

pub returns-in-Make-clause-loaded : goal.returns-in-Make-clause-loaded
returns-in-Make-clause-loaded g c =
    let nothing : Inputs = record { tgff = None; arch = Bytes c.new.result; third = None } in
    subst (λ (r : Request). AreLoadedFor (g.D.Desk.files c.args.desk.now) (request_value r) nothing) (sym c.in-Make.is)
    (record { world = no_world; found = refl; loaded = record { tgff = tt; arch = c.new.ensures.items; third = tt } })
