use Rattle.std.proofs.Common.{◌≡◌, ◌∙◌, ℕ, Some, ap, arith, length, map, option_map, string_bytes, subst, sym, vec_len}
use Rattle.std.proofs.lemmas.List.{length-map}
use Rattle.run_words.specs.Fit.{IsFit}
use Rattle.run_words.specs.Requests.{request}
use Rattle.run_words.specs.Values.{request_value}
use Rattle.dse_run.proofs.top.respond.Goals as goal

pub reply_to-requires-clause-fit : goal.reply_to-requires-clause-fit
reply_to-requires-clause-fit g c =
    let tags = map string_bytes c.deref-2.result.now in
    let words = map string_bytes c.args.words.now in
    let asked : request tags words ≡ Some (request_value c.in-Some.request) = sym c.in_ok-request.ensures ∙ ap (option_map request_value) c.in-Some.is in
    let texts = length-map c.deref.result.now (λ t. (goal.Evaluator-dyn g (t.vtable, t.value)).text t.value) in
    let same = ap length c.in_ok-tags.ensures in
    let taken = ap (λ ts. length (map string_bytes ts)) c.deref-2.ensures.value in
    let number : length tags ≡ vec_len c.args.tools.now = omega (arith, texts, same, taken, c.deref.ensures.len) in
    subst (λ (n : ℕ). IsFit n (request_value c.in-Some.request)) number (c.law_of_requests.ensures.fit tags words (request_value c.in-Some.request) asked)
