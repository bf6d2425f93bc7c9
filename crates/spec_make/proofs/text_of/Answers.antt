use Rattle.std.proofs.Common.{◌≡◌, ◌+◌, ◌++◌, ◌∙◌, ap, length}
use Rattle.std.specs.List.{flat_map, enumerate_from}
use Rattle.spelled_lines.specs.Lines.{spelled}
use Rattle.spec_model.specs.Spec.{below}
use Rattle.genotype.specs.Draws.{after_words}
use Rattle.spec_make.specs.Streams.{stream_of, later, taking}
use Rattle.spec_make.specs.Mesh.{resources_of, tasks_of, all_ends, messages_of}
use Rattle.spec_make.specs.Made.{header_lines, resource_lines, link_lines, task_lines, message_lines, map_lines}
use Rattle.spec_make.proofs.Drawing.{lines_more, stream_later, after_add}
use Rattle.spec_make.proofs.text_of.Goals as goal

pub returns : goal.returns
returns g c =
    let gives = g.W.Words.gives in
    let after = g.W.Words.after in
    let start = c.args.words.now in
    let words = stream_of gives after start in
    let side = c.args.side in
    let tasks = tasks_of side in
    let links_from = resources_of side in
    let messages_from = links_from + length (all_ends side) in
    let maps_from = messages_from + length (messages_of tasks) in
    let at_links : c.put_resources.new.words ≡ after_words after links_from start = c.in_ok-put_resources.ensures.words in
    let at_messages : c.put_links.new.words ≡ after_words after messages_from start = c.in_ok-put_links.ensures.words ∙ ap (after_words after (length (all_ends side))) at_links
    ∙ after_add after links_from (length (all_ends side)) start in
    let at_maps : c.put_messages.new.words ≡ after_words after maps_from start = c.in_ok-put_messages.ensures.words ∙ ap (after_words after (length (messages_of tasks))) at_messages
    ∙ after_add after messages_from (length (messages_of tasks)) start in
    let resources = taking 1 resource_lines words (below (resources_of side)) in
    let links = taking 1 link_lines (later links_from words) (enumerate_from 0 (all_ends side)) in
    let messages = taking 1 (message_lines tasks) (later messages_from words) (messages_of tasks) in
    let maps = taking 7 (map_lines side) (later maps_from words) (below tasks) in
    let headed : c.put_header.new.text.items ≡ flat_map spelled header_lines = c.in_ok-put_header.ensures ∙ ap (λ l. l ++ flat_map spelled header_lines) c.new-text.ensures.items in
    let one = lines_more c.put_header.new.text.items c.put_resources.new.text.items header_lines resources headed c.in_ok-put_resources.ensures.text in
    let two = lines_more c.put_resources.new.text.items c.put_links.new.text.items (header_lines ++ resources) links one
    (c.in_ok-put_links.ensures.text ∙ ap (λ w. c.put_resources.new.text.items ++ flat_map spelled (taking 1 link_lines w (enumerate_from 0 (all_ends side))))
    (ap (stream_of gives after) at_links ∙ stream_later gives after links_from start)) in
    let three = lines_more c.put_links.new.text.items c.put_tasks.new.text.items (header_lines ++ resources ++ links) (task_lines side) two c.in_ok-put_tasks.ensures in
    let four = lines_more c.put_tasks.new.text.items c.put_messages.new.text.items (header_lines ++ resources ++ links ++ task_lines side) messages three
    (c.in_ok-put_messages.ensures.text ∙ ap (λ w. c.put_tasks.new.text.items ++ flat_map spelled (taking 1 (message_lines tasks) w (messages_of tasks)))
    (ap (stream_of gives after) at_messages ∙ stream_later gives after messages_from start)) in
    lines_more c.put_messages.new.text.items c.put_maps.new.text.items (header_lines ++ resources ++ links ++ task_lines side ++ messages) maps four
    (c.in_ok-put_maps.ensures ∙ ap (λ w. c.put_messages.new.text.items ++ flat_map spelled (taking 7 (map_lines side) w (below tasks)))
    (ap (stream_of gives after) at_maps ∙ stream_later gives after maps_from start))
