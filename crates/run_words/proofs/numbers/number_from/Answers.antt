use Rattle.std.proofs.Common.{ℕ, List, length, slice_index, subst, sym, ◌≡◌, ◌≢◌, ◌≤◌}
use Rattle.run_words.proofs.Wholes.{number_ok, number_err}
use Rattle.run_words.proofs.numbers.number_from.Goals as goal

pub returns-then-least-number : goal.returns-then-least-number
returns-then-least-number c =
    let some = rw c.as_bytes-bytes.ensures.value at c.if-bytes-eq0.false in
    let zero = rw c.as_bytes-bytes.ensures.value at c.if-bytes-eq48.false in
    let low = rw c.as_bytes-bytes.ensures.value at c.if-bytes-lt49.false in
    number_ok c.args.least c.args.text.now c.in-Ok.number some zero low c.in-Ok.ensures.value.0 c.if-least-number.true

pub returns-in-Err : goal.returns-in-Err
returns-in-Err c =
    let some = rw c.as_bytes-bytes.ensures.value at c.if-bytes-eq0.false in
    let zero = rw c.as_bytes-bytes.ensures.value at c.if-bytes-eq48.false in
    let low = rw c.as_bytes-bytes.ensures.value at c.if-bytes-lt49.false in
    number_err c.args.least c.args.text.now some zero low c.in-Err.ensures.value.0
