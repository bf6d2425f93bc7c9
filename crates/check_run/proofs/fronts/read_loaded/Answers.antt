use Rattle.std.proofs.Common.{ℕ, List, sym, subst}
use Rattle.check_run.specs.Fronts.{ReadsFront}
use Rattle.check_run.proofs.fronts.read_loaded.Goals as goal

pub returns-clause-reads : goal.returns-clause-reads
returns-clause-reads c = λ bytes loaded. subst (λ (b : List ℕ). ReadsFront c.args.spec.now b c.read_short.result) (sym (c.in_ok-bytes.ensures.whole bytes loaded)) c.read_short.ensures.reads
