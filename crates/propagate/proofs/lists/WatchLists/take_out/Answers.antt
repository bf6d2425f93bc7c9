use Rattle.std.proofs.Common.{◌≡◌, ◌∙◌, List, [], length, get_or, set, map, drop, sym, ap, subst, arith, get_or-set_same, get_or-set_other}
use Rattle.std.specs.List.{swap_remove}
use Rattle.std.specs.Prelude.{Contains}
use Rattle.propagate.specs.declared.lists.Watch.{Watch}
use Rattle.propagate.specs.Counters.{literal_number}
use Rattle.propagate.specs.Watches.{watches_of}
use Rattle.propagate.proofs.Tying.{lists_at, lists_set}
use Rattle.propagate.proofs.Listed.{length-swap_remove, Contains-swap_remove, Contains-drop_removed}
use Rattle.propagate.proofs.lists.WatchLists.take_out.Goals as goal

abbrev none : List Watch
none = []

-- the list before
own : (c : goal.After-self-1) → c.index_mut.result.now.items ≡ watches_of c.args.self.now (literal_number c.args.lit)
own c = lists_at c.self.inside.lists.items (λ v. v.items) c.args.self.now c.number_of.result (literal_number c.args.lit) c.index_mut.result.now c.self.view_is c.number_of.ensures c.requires.room
    c.index_mut.ensures.value

-- the lists afterwards
after : (c : goal.After-self-1) → map (λ v. v.items) (set c.self.inside.lists.items c.number_of.result c.swap_remove.new.self)
    ≡ set c.args.self.now (literal_number c.args.lit) (swap_remove (watches_of c.args.self.now (literal_number c.args.lit)) c.args.place c.swap_remove.result)
after c =
    lists_set c.self.inside.lists.items (λ v. v.items) c.args.self.now c.number_of.result (literal_number c.args.lit) c.swap_remove.new.self
    (swap_remove (watches_of c.args.self.now (literal_number c.args.lit)) c.args.place c.swap_remove.result) c.self.view_is c.number_of.ensures
    (c.swap_remove.ensures.items ∙ ap (λ (ws : List Watch). swap_remove ws c.args.place c.swap_remove.result) (own c))

-- the list of the literal afterwards
here : (c : goal.After-self-1) → watches_of (map (λ v. v.items) (set c.self.inside.lists.items c.number_of.result c.swap_remove.new.self)) (literal_number c.args.lit)
    ≡ swap_remove (watches_of c.args.self.now (literal_number c.args.lit)) c.args.place c.swap_remove.result
here c =
    let k = literal_number c.args.lit in
    let list = swap_remove (watches_of c.args.self.now k) c.args.place c.swap_remove.result in
    ap (λ (ls : List (List Watch)). get_or ls k none) (after c) ∙ get_or-set_same c.args.self.now k list none c.requires.room

-- what was taken out
out : (c : goal.After-self-1) → c.swap_remove.result ≡ get_or (watches_of c.args.self.now (literal_number c.args.lit)) c.args.place c.swap_remove.result
out c = c.swap_remove.ensures.value ∙ ap (λ (ws : List Watch). get_or ws c.args.place c.swap_remove.result) (own c)

pub returns-clause-fewer : goal.returns-clause-fewer
returns-clause-fewer c =
    let e = ap (λ (ws : List Watch). length ws) (here c) in
    let l = length-swap_remove (watches_of c.args.self.now (literal_number c.args.lit)) c.args.place c.swap_remove.result c.requires.there in
    omega (arith, e, l)

pub returns-clause-others : goal.returns-clause-others
returns-clause-others c k n =
    let j = literal_number c.args.lit in
    let list = swap_remove (watches_of c.args.self.now j) c.args.place c.swap_remove.result in
    ap (λ (ls : List (List Watch)). get_or ls k none) (after c) ∙ get_or-set_other c.args.self.now j k list none n

pub returns-clause-rest : goal.returns-clause-rest
returns-clause-rest c w n h =
    let P : List Watch → Type 0 = λ ws. Contains ws w in
    subst P (sym (here c)) (Contains-swap_remove (watches_of c.args.self.now (literal_number c.args.lit)) c.args.place c.swap_remove.result w c.requires.there (out c) n h)

pub returns-clause-ahead : goal.returns-clause-ahead
returns-clause-ahead c w n h =
    let P : List Watch → Type 0 = λ ws. Contains (drop c.args.place ws) w in
    subst P (sym (here c)) (Contains-drop_removed (watches_of c.args.self.now (literal_number c.args.lit)) c.args.place c.swap_remove.result w c.requires.there (out c) n h)
