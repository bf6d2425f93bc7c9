-- Who is where, and which walks there are, as tests: what rows compute, and what the model of a design states.
use Rattle.std.specs.Prelude.{ℕ, zero, suc, Bool, true, false, ◌&&◌, ◌==◌, length, if◌then◌else◌}
use Rattle.spec_model.specs.Spec.{SpecValue, Bits, arc_at, option_at, arc_var}
use Rattle.spec_model.specs.Rules.{sender_of}

-- whether some number below n passes
abbrev pub some_passes : (ℕ → Bool) → ℕ → Bool
some_passes p zero = false
some_passes p (suc n) = if p n then true else some_passes p n

-- whether option o puts t on r
abbrev pub puts : SpecValue → Bits → ℕ → ℕ → ℕ → Bool
puts s f t r o = f o && ((option_at s o).task == t && (option_at s o).resource == r)

-- whether t is on r
abbrev pub on_test : SpecValue → Bits → ℕ → ℕ → Bool
on_test s f t r = some_passes (puts s f t r) (length s.options)

-- whether there is a walk of n arcs
abbrev pub walk_test : SpecValue → Bits → ℕ → ℕ → ℕ → Bool
walk_test s f m zero r = on_test s f (sender_of s m) r
walk_test s f m (suc n) r = some_passes (λ a. f (arc_var s m a) && ((arc_at s a).head == r && walk_test s f m n (arc_at s a).tail)) (length s.arcs)
