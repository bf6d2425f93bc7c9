-- What the builder refuses at the end is what the end is refused for.
use Rattle.std.proofs.Common.{◌≤◌, arith}
use Rattle.spec_model.specs.Spec.{SpecValue}
use Rattle.spec_graph.specs.Refusals.{IsFinishRefused, IsFinishAccepted}
use Rattle.spec_graph.specs.declared.faults.BuildFault.{BuildFault}
use Rattle.spec_graph.specs.declared.faults.BuildFault.TheVariants as builds
use Rattle.line_words.specs.Refused.{rank}
use Rattle.line_words.specs.declared.refusals.Why.{Why}
use Rattle.line_words.specs.declared.refusals.Why.TheVariants.{TooBig, Limit}
use Rattle.line_words.specs.declared.refusals.What.TheVariants.{Variables, Terms}
use Rattle.spec_join.specs.Refusals.{BreaksEnd}
use Rattle.spec_join.specs.Stops.{stop_for, RefusesEnd, AcceptsEnd}

least_big : (p : SpecValue) (other : Why) → BreaksEnd p other → rank TooBig ≤ rank other
least_big p TooBig h = omega arith
least_big p (Limit Variables) h = omega arith
least_big p (Limit Terms) h = omega arith
least_big p (Limit _) h = absurd h
least_big p _ h = absurd h

least_variables : (p : SpecValue) → IsFinishRefused p (builds.Limit Variables) → (other : Why) → BreaksEnd p other → rank (Limit Variables) ≤ rank other
least_variables p f TooBig h = absurd (f.0 h)
least_variables p f (Limit Variables) h = omega arith
least_variables p f (Limit Terms) h = omega arith
least_variables p f (Limit _) h = absurd h
least_variables p f _ h = absurd h

least_terms : (p : SpecValue) → IsFinishRefused p (builds.Limit Terms) → (other : Why) → BreaksEnd p other → rank (Limit Terms) ≤ rank other
least_terms p f TooBig h = absurd (f.0 h)
least_terms p f (Limit Variables) h = absurd (omega (arith, f.1, h))
least_terms p f (Limit Terms) h = omega arith
least_terms p f (Limit _) h = absurd h
least_terms p f _ h = absurd h

pub end_refused : (p : SpecValue) (fault : BuildFault) → IsFinishRefused p fault → RefusesEnd p (stop_for fault)
end_refused p builds.TooBig h = record { holds = h; least = least_big p }
end_refused p (builds.Limit Variables) h = record { holds = h.1; least = least_variables p h }
end_refused p (builds.Limit Terms) h = record { holds = h.2; least = least_terms p h }
end_refused p (builds.Limit _) h = absurd h
end_refused p builds.NoMemory h = tt
end_refused p builds.Repeated h = absurd h
end_refused p builds.SelfLink h = absurd h
end_refused p builds.Cyclic h = absurd h

pub end_accepted : (p : SpecValue) → IsFinishAccepted p → AcceptsEnd p
end_accepted p h TooBig x = h.small x
end_accepted p h (Limit Variables) x = omega (arith, h.few_variables, x)
end_accepted p h (Limit Terms) x = omega (arith, h.few_terms, x)
end_accepted p h (Limit _) x = x
end_accepted p h _ x = x
