use Rattle.std.proofs.Common.{rules, ◌≡◌, ◌∙◌, refl, sym, length, get_or, arith}
use Rattle.evo_explore.proofs.Bred.{bred_is, after_bred_is, drawn_as, after_as, length_as, length-child}
use Rattle.evo_explore.proofs.breeding.bred.Goals as goal

pub returns-clause-drawn : goal.returns-clause-drawn
returns-clause-drawn g c =
    let all : c.in-Ok.count ≡ length c.args.members.now = search rules in
    let d = c.index-members-a.result in
    let a = (get_or c.args.members.now c.drawn_place-a.result d).genotype in
    let e = c.index-members-b.result in
    let b = (get_or c.args.members.now c.drawn_place-b.result e).genotype in
    let is = bred_is g.W.Words.gives g.W.Words.after c.args.n c.in-Ok.count c.drawn_place-a.result c.drawn_place-b.result c.args.members.now d e a b c.args.words.now c.drawn_place-a.new.words
    c.drawn_place-b.new.words c.requires.genes all c.drawn_place-a.ensures.place c.drawn_place-a.ensures.after c.drawn_place-b.ensures.place c.drawn_place-b.ensures.after
    (omega (arith, all, c.drawn_place-a.ensures.there)) (omega (arith, all, c.drawn_place-b.ensures.there)) refl refl in
    drawn_as c.child.result _ _ is c.child.ensures.drawn

pub returns-clause-after : goal.returns-clause-after
returns-clause-after g c =
    let all : c.in-Ok.count ≡ length c.args.members.now = search rules in
    let d = c.index-members-a.result in
    let a = (get_or c.args.members.now c.drawn_place-a.result d).genotype in
    let is = after_bred_is g.W.Words.gives g.W.Words.after c.args.n c.in-Ok.count c.drawn_place-a.result c.args.members.now d a c.args.words.now c.drawn_place-a.new.words c.drawn_place-b.new.words
    c.requires.genes all c.drawn_place-a.ensures.place c.drawn_place-a.ensures.after c.drawn_place-b.ensures.after (omega (arith, all, c.drawn_place-a.ensures.there)) refl in
    after_as c.child.result _ _ _ is c.child.ensures.after

pub returns-clause-len : goal.returns-clause-len
returns-clause-len g c =
    let all : c.in-Ok.count ≡ length c.args.members.now = search rules in
    let d = c.index-members-a.result in
    let a = (get_or c.args.members.now c.drawn_place-a.result d).genotype in
    let e = c.index-members-b.result in
    let b = (get_or c.args.members.now c.drawn_place-b.result e).genotype in
    let first : length a ≡ c.args.n = c.requires.genes c.drawn_place-a.result d (omega (arith, all, c.drawn_place-a.ensures.there)) in
    let second : length b ≡ c.args.n = c.requires.genes c.drawn_place-b.result e (omega (arith, all, c.drawn_place-b.ensures.there)) in
    length_as c.child.result _ c.args.n (length-child g.W.Words.gives g.W.Words.after (length a) a b c.drawn_place-b.new.words (second ∙ sym first) ∙ first) c.child.ensures.drawn
