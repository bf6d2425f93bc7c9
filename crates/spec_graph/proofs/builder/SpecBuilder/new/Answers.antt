use Rattle.std.proofs.Common.{rules}
use Rattle.spec_graph.proofs.builder.SpecBuilder.new.Goals as goal

pub invariant_of-result : goal.invariant_of-result
invariant_of-result c = record {
  plan = record {
    few_tasks = search rules;
    few_messages = search rules;
    few_resources = search rules;
    few_links = search rules;
    few_arcs = search rules;
    few_options = search rules;
    few_objectives = search rules;
    named = search rules;
    tasks_distinct = search rules;
    messages_distinct = search rules;
    resources_distinct = search rules;
    links_distinct = search rules;
    objectives_distinct = search rules;
    pairs_distinct = search rules;
    arcs_distinct = search rules;
    arcs_in = search rules;
    options_in = search rules;
    messages_in = search rules;
    deadlines_in = search rules;
    option_rows = search rules;
    resource_rows = search rules;
    link_rows = search rules;
    traffic_rows = search rules;
    no_cycle = search rules;
  };
  order = search rules;
  room = search rules;
}
