-- The specification that the lists of a builder and of a finished specification state.
use Rattle.std.specs.Prelude.{[], map}
use Rattle.spec_model.specs.Spec.{SpecValue}
use Rattle.spec_graph.specs.Lists.{arc_value, choice_value}
use Rattle.spec_graph.specs.declared.held.Held.{Held}

abbrev pub held_spec : Held → SpecValue
held_spec h = record {
  tasks = h.tasks;
  message_names = h.message_names;
  messages = h.messages.items;
  resources = h.resources;
  links = h.links;
  arcs = map arc_value h.arcs.items;
  options = map choice_value h.options;
  deadlines = h.deadlines.items;
  objectives = h.objectives;
  option_weights = h.option_weights.items;
  resource_weights = h.resource_weights.items;
  link_weights = h.link_weights.items;
  traffic_weights = h.traffic_weights.items;
  capacities = [];
  pairs = [];
}
