use Rattle.std.proofs.Common.{◌≡◌, ℕ, List, Some, None, ap, sym, ◌∙◌, Bool, rules, arith, length, ◌<◌}
use Rattle.line_words.specs.Rules.{first_broken, said}
use Rattle.line_words.proofs.Least.{first_broken-append-none, first_broken-append-some}
use Rattle.file_bricks.specs.Words.{word_at}
use Rattle.tgff_reader.specs.Faults.{arc_word_tests, arc_graph_tests, closes_cycle, place_of}
use Rattle.tgff_reader.specs.Reaching.{reaches}
use Rattle.tgff_reader.specs.declared.file.Graph.{Graph}
use Rattle.tgff_reader.specs.declared.file.TgffTask.{TgffTask}
use Rattle.tgff_reader.proofs.taking.take_arc.Goals as goal

pub returns-in-Some-clause-stops : goal.returns-in-Some-clause-stops
returns-in-Some-clause-stops c =
    let ws = said c.args.words.now in
    let broken : first_broken (arc_word_tests c.args.graph.now ws) ≡ Some c.in-Some.why = search rules in
    first_broken-append-some (arc_word_tests c.args.graph.now ws) (arc_graph_tests c.args.blocks.now (closes_cycle c.args.graph.now ws) ws) c.in-Some.why broken

pub returns-in-Some-arc_fault-clause-stops : goal.returns-in-Some-arc_fault-clause-stops
returns-in-Some-arc_fault-clause-stops c =
    let ws = said c.args.words.now in
    let fine : first_broken (arc_word_tests c.args.graph.now ws) ≡ None = search rules in
    let tasks : List TgffTask = c.args.graph.now.tasks in
    let from : c.place_of-from.result ≡ place_of tasks (word_at ws 3)
    = c.place_of-from.ensures.value ∙ ap (λ (ts : List TgffTask). place_of ts c.word_at.result.now) (c.list.ensures ∙ ap (λ (g : Graph). g.tasks) c.graph-2.ensures.graph)
    ∙ ap (place_of tasks) c.word_at.ensures in
    let to : c.place_of-to.result ≡ place_of tasks (word_at ws 5)
    = c.place_of-to.ensures.value ∙ ap (λ (ts : List TgffTask). place_of ts c.word_at-2.result.now) (c.list-2.ensures ∙ ap (λ (g : Graph). g.tasks) c.graph-3.ensures.graph)
    ∙ ap (place_of tasks) c.word_at-2.ensures in
    let closes : c.has.result ≡ closes_cycle c.args.graph.now ws
    = c.has.ensures ∙ c.in_ok-reached.ensures c.place_of-from.result ∙ ap (reaches c.args.graph.now.arcs c.place_of-to.result) from
    ∙ ap (λ (t : ℕ). reaches c.args.graph.now.arcs t (place_of tasks (word_at ws 3))) to in
    let broken : first_broken (arc_graph_tests c.args.blocks.now c.has.result ws) ≡ Some c.in-Some-arc_fault.why = search rules in
    first_broken-append-none (arc_word_tests c.args.graph.now ws) (arc_graph_tests c.args.blocks.now (closes_cycle c.args.graph.now ws) ws) fine
    ∙ ap (λ (b : Bool). first_broken (arc_graph_tests c.args.blocks.now b ws)) (sym closes) ∙ broken

pub has-requires : goal.has-requires
has-requires c =
    let there : c.place_of-from.result < length c.args.graph.now.tasks = search rules in
    omega (arith, there, c.graph.ensures.few, ap (λ (g : Graph). length g.tasks) c.graph.ensures.graph)
