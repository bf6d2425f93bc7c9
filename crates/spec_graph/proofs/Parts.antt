-- Loops over messages that are listed, and the marks at these.
use Rattle.std.proofs.Common.{◌≡◌, ℕ, ◌+◌, ◌<◌, Bool, true, false, not, List, length, get_or, map, take, refl, sym, ap, ◌∙◌, subst, arith, Contains}
use Rattle.std.specs.Prelude.{◌||◌, ◌==◌, fold}
use Rattle.std.specs.List.{list_any}
use Rattle.std.proofs.lemmas.Bool.{false≢true, eq-eqb, eqb-true}
use Rattle.std.proofs.lemmas.List.{get_or-map, length-map, get_or_default}
use Rattle.std.proofs.lemmas.List.Sums.{fold_more}
use Rattle.spec_model.specs.Spec.{Message}
use Rattle.spec_model.proofs.Tests.{passing_member, member_passes}
use Rattle.task_order.specs.Order.{is_in}
use Rattle.spec_graph.specs.Lists.{message_number, task_number, message_in}
use Rattle.spec_graph.specs.Merged.{is_number, messages_at, with_once, with_all_once}
use Rattle.spec_graph.specs.Marks.{AreMarks}
use Rattle.spec_graph.specs.declared.numbers.MsgNo.{MsgNo}
use Rattle.spec_graph.specs.declared.numbers.TaskNo.{TaskNo}
use Rattle.spec_graph.proofs.Walking.{Seeing, seeing_more, seen_once}

-- the message listed at a place
pub part_at : (ms : List Message) (listed : List MsgNo) (i : ℕ) (d : MsgNo) (message : Message) → i < length listed → (get_or listed i d).0 < length ms
    → message ≡ get_or ms (get_or listed i d).0 message → get_or (messages_at ms (map message_number listed)) i message ≡ message
part_at ms listed i d message l lm e =
    get_or-map (message_in ms) (map message_number listed) i 0 message (omega (arith, l, length-map listed message_number))
    ∙ (ap (message_in ms) (get_or-map message_number listed i d 0 l)
    ∙ (get_or_default ms (get_or listed i d).0 _ message lm ∙ sym e))

-- one message more of those listed
pub fold_part : {Y : Type 0} (f : Y → Message → Y) (a : Y) (ms : List Message) (listed : List MsgNo) (i : ℕ) (d : MsgNo) (message : Message) (now next : Y) → i < length listed
    → (get_or listed i d).0 < length ms → message ≡ get_or ms (get_or listed i d).0 message → now ≡ fold f a (take i (messages_at ms (map message_number listed))) → next ≡ f now message
    → next ≡ fold f a (take (i + 1) (messages_at ms (map message_number listed)))
fold_part f a ms listed i d message now next l lm e en ex =
    let parts = messages_at ms (map message_number listed) in
    let within : i < length parts = omega (arith, l, length-map listed message_number, length-map (map message_number listed) (message_in ms)) in
    ex ∙ (ap (λ y. f y message) en ∙ (ap (f (fold f a (take i parts))) (sym (part_at ms listed i d message l lm e)) ∙ sym (fold_more f a parts i message within)))

-- ---- marks

pub seeing_message : (ns : List MsgNo) (i : ℕ) (d : MsgNo) (seen next : List Bool) → i < length ns → is_in seen (get_or ns i d).0 ≡ false
    → ((t : ℕ) → is_in next t ≡ (is_in seen t || (t == (get_or ns i d).0))) → Seeing (map message_number ns) i seen → Seeing (map message_number ns) (i + 1) next
seeing_message ns i d seen next l new en s = seeing_more (map message_number ns) i (get_or ns i d).0 seen next (sym (get_or-map message_number ns i d 0 l)) new en s

-- a number is in a list exactly where a test finds it
pub found : (xs : List ℕ) (x : ℕ) → Contains xs x → list_any (is_number x) xs ≡ true
found xs x h = member_passes (is_number x) xs x h (eq-eqb _ _ refl)

pub finds : (xs : List ℕ) (x : ℕ) → list_any (is_number x) xs ≡ true → Contains xs x
finds xs x e =
    let y = passing_member (is_number x) xs e in
    subst (Contains xs) (eqb-true y.0 x y.2) y.1

-- the marks of a list that was gone through
pub marks_done : (xs : List ℕ) (n : ℕ) (seen : List Bool) → n ≡ length xs → Seeing xs n seen → AreMarks xs seen
marks_done xs n seen l s = record { marked = λ m. at m (is_in seen m) refl (list_any (is_number m) xs) refl; once = seen_once xs n seen (omega (arith, l)) s }
  where
    at : (m : ℕ) (b : Bool) → is_in seen m ≡ b → (c : Bool) → list_any (is_number m) xs ≡ c → not (list_any (is_number m) xs) ≡ not (is_in seen m)
    at m true eb true ec = ap not (ec ∙ sym eb)
    at m true eb false ec =
        let b = s.holds m eb in
        let within : b.place < length xs = omega (arith, b.below, l) in
        absurd (false≢true (sym ec ∙ found xs m (b.place, within, get_or_default xs b.place m 0 within ∙ b.same)))
    at m false eb true ec =
        let c = finds xs m ec in
        absurd (false≢true (sym eb ∙ subst (λ (x : ℕ). is_in seen x ≡ true) (get_or_default xs c.0 0 m c.1 ∙ c.2) (s.has c.0 (omega (arith, c.1, l)))))
    at m false eb false ec = ap not (ec ∙ sym eb)

-- ---- tasks that are gathered

-- one task more
pub fold_task : (xs : List ℕ) (ts : List TaskNo) (i : ℕ) (d : TaskNo) (now next : List ℕ) → i < length ts → now ≡ with_all_once xs (take i (map task_number ts))
    → next ≡ with_once now (get_or ts i d).0 → next ≡ with_all_once xs (take (i + 1) (map task_number ts))
fold_task xs ts i d now next l en ex =
    ex ∙ (ap (λ (ys : List ℕ). with_once ys (get_or ts i d).0) en
    ∙ (ap (with_once (with_all_once xs (take i (map task_number ts)))) (sym (get_or-map task_number ts i d 0 l))
    ∙ sym (fold_more with_once xs (map task_number ts) i 0 (omega (arith, l, length-map ts task_number)))))

-- the number of the message listed at a place
pub number_listed : (listed : List MsgNo) (i : ℕ) (d : MsgNo) → i < length listed → (get_or listed i d).0 ≡ get_or (map message_number listed) i 0
number_listed listed i d l = sym (get_or-map message_number listed i d 0 l)

-- the mark that is read at a place
pub read_mark : (marks : List Bool) (x n : ℕ) (b : Bool) → x < n → length marks ≡ n → b ≡ get_or marks x b → is_in marks x ≡ b
read_mark marks x n b l e eb = get_or_default marks x false b (omega (arith, l, e)) ∙ sym eb
