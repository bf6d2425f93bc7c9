use Rattle.std.proofs.Math.Logic.{⊎_map}
use Rattle.std.proofs.lemmas.Result.{IfOk-weaker}
use Rattle.check_run.proofs.Contents.{of_weaker}
use Rattle.check_run.proofs.checking.check.Goals as goal

pub returns-clause-checked : goal.returns-clause-checked
returns-clause-checked g c =
    IfOk-weaker c.check_spec.result _ _
    (λ tried h world loaded. of_weaker _ _ _ _
    (λ proof rest. record { reading = c.read_spec-read.result; reads = c.read_spec-read.ensures world.tgff world.arch loaded.tgff loaded.arch; rest = rest })
    (h world loaded.third))
    c.check_spec.ensures.checked

pub returns-clause-late : goal.returns-clause-late
returns-clause-late g c = λ world loaded.
    ⊎_map
    (λ claim. record { reading = c.read_spec-read.result; reads = c.read_spec-read.ensures world.tgff world.arch loaded.tgff loaded.arch; claim = claim })
    (λ none. none)
    (c.check_spec.ensures.late world loaded.third)
