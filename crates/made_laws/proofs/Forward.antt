-- Messages whose receivers have higher numbers than their sender: they close no cycle.
use Rattle.std.proofs.Common.{◌≡◌, ℕ, zero, suc, ◌<◌, ◌≤◌, List, length, arith, All}
use Rattle.std.proofs.lemmas.List.Elements.{All-contains}
use Rattle.spec_model.specs.Spec.{Message}
use Rattle.spec_model.specs.WellFormed.{Sends, Chain, Leads}

-- a message to at most two tasks behind its sender, which carries a quantity of 1
pub record IsForward (m : Message) : Type 0 where
  pub rises : All (λ w. m.sender < w) m.receivers
  pub few : length m.receivers ≤ 2
  pub one : m.quantity ≡ 1

sends_on : (ms : List Message) (a b : ℕ) → All IsForward ms → Sends ms a b → a < b
sends_on ms a b h x =
    let forward = All-contains IsForward ms x.message h x.there in
    let on = All-contains (λ w. x.message.sender < w) x.message.receivers b forward.rises x.to in
    omega (arith, on, x.from)

chain_rises : (ms : List Message) (n a c : ℕ) → All IsForward ms → Chain ms n a c → a ≤ c
chain_rises ms zero a c h e = omega (arith, e)
chain_rises ms (suc n) a c h p = omega (arith, sends_on ms a p.0 h p.1, chain_rises ms n p.0 c h p.2)

pub closes_none : (ms : List Message) (m : Message) → All IsForward ms → IsForward m → ¬ Leads ms m.receivers m.sender
closes_none ms m h f x =
    let back = chain_rises ms x.reaches.hops x.start m.sender h x.reaches.chain in
    let on = All-contains (λ w. m.sender < w) m.receivers x.start f.rises x.among in
    omega (arith, back, on)
