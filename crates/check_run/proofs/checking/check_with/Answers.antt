use Rattle.std.proofs.Math.Logic.{⊎_map}
use Rattle.std.proofs.lemmas.Result.{IfOk-weaker}
use Rattle.check_run.proofs.Contents.{of_weaker}
use Rattle.check_run.proofs.checking.check_with.Goals as goal

pub returns-clause-checked : goal.returns-clause-checked
returns-clause-checked g c =
    IfOk-weaker c.check_front.result _ _
    (λ tried h world third. of_weaker _ _ _ _
    (λ proof rest. record { reading = c.read_named_front-read.result; reads = c.read_named_front-read.ensures.reads world.third third; rest = rest })
    h)
    c.check_front.ensures.checked

pub returns-clause-late : goal.returns-clause-late
returns-clause-late g c = λ world third.
    ⊎_map
    (λ claim. record { reading = c.read_named_front-read.result; reads = c.read_named_front-read.ensures.reads world.third third; claim = claim })
    (λ none. none)
    c.check_front.ensures.late
