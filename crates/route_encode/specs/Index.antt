-- A specification with its options and arcs by task, resource and link.
use Rattle.std.specs.Prelude.{◌≡◌, length, map}
use Rattle.spec_model.specs.Spec.{below, base}
use Rattle.spec_model.specs.Rules.{options_of, arcs_into, arcs_from, arcs_of}
use Rattle.encode_model.specs.Encoding.{options_on, neighbours}
use Rattle.route_encode.specs.Keys.{task_of, resource_of}
use Rattle.route_encode.specs.declared.index.Index.TheInside.{Inside}

-- the lists of an index are those of its specification
pub record HoldsIndex (i : Inside) : Type 0 where
  pub of_task : i.of_task.items ≡ map (options_of i.spec.now) (below (length i.spec.now.tasks))
  pub on_resource : i.on_resource.items ≡ map (options_on i.spec.now) (below (length i.spec.now.resources))
  pub into : i.into.items ≡ map (arcs_into i.spec.now) (below (length i.spec.now.resources))
  pub from : i.from.items ≡ map (arcs_from i.spec.now) (below (length i.spec.now.resources))
  pub of_link : i.of_link.items ≡ map (arcs_of i.spec.now) (below (length i.spec.now.links))
  pub neighbours : i.neighbours.items ≡ map (neighbours i.spec.now) (below (length i.spec.now.resources))
  pub bases : i.bases.items ≡ map (base i.spec.now) (below (length i.spec.now.messages))
  pub option_tasks : i.option_tasks.items ≡ map (task_of i.spec.now) (below (length i.spec.now.options))
  pub option_resources : i.option_resources.items ≡ map (resource_of i.spec.now) (below (length i.spec.now.options))
