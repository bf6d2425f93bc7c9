use Rattle.std.proofs.Common.{◌∙◌, ◌<◌, sym, ap, arith, ℕ, map, length}
use Rattle.pb_rules.specs.CuttingPlanes.{cut}
use Rattle.cutting_planes.specs.Lowered.{lowered}
use Rattle.cutting_planes.proofs.Lowered.{cut-zero, cut-lowered, written_map}
use Rattle.cutting_planes.proofs.in_place.cut_terms.Goals as goal

pub returns-then-degree-eq0 : goal.returns-then-degree-eq0
returns-then-degree-eq0 c =
    let ts = c.args.terms.now.items in
    c.clear.ensures.items ∙ sym (cut-zero ts) ∙ ap (λ (k : ℕ). cut k ts) (sym c.if-degree-eq0.true)

pub returns-else-degree-eq0 : goal.returns-else-degree-eq0
returns-else-degree-eq0 c =
    let ts = c.args.terms.now.items in
    let d = c.args.degree in
    let some = c.if-degree-eq0.false in
    let p : 0 < d = omega arith in
    let value = c.deref_mut.ensures.value in
    let len = sym (ap length value) ∙ c.deref_mut.ensures.len in
    written_map (lowered d) c.args.terms.now.len c.lower_terms.new.terms ts (c.lower_terms.ensures ∙ ap (map (lowered d)) value) len ∙ cut-lowered d ts p c.requires
