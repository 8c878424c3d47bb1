use Rattle.std.proofs.Common.{◌≡◌, ◌<◌, ◌==◌, true, length, get_or, sym, ap, ◌∙◌, arith}
use Rattle.std.proofs.lemmas.Bool.Decides.{nat_tests}
use Rattle.std.proofs.lemmas.Bool.{both_ways}
use Rattle.std.proofs.lemmas.List.{get_or_default}
use Rattle.std.specs.Option.{unwrap_or}
use Rattle.bank.specs.Cells.{linkable, at, last_or, first_or}
use Rattle.bank.proofs.Steps.{unwrap_end}
use Rattle.bank.proofs.relink.Goals as goal

pub returns : goal.returns
returns g c =
    let cs = c.args.cells.now in let p = c.args.from.now in let q = c.args.to.now in
    let t = c.unwrap_or-last.result in
    let h : linkable (length cs) p q t ≡ true = sym c.can_link.ensures ∙ c.if-not-can_link.false in
    let lt : p.head < length cs = grind (arith, nat_tests) in
    let lt2 : t < length cs = grind (arith, nat_tests) in
    let e1 : get_or cs p.head c.index-cells-head.result ≡ at cs p.head = get_or_default cs p.head _ _ lt in
    let e2 : get_or cs t c.index-cells-last.result ≡ at cs t = get_or_default cs t _ _ lt2 in
    let e3 : t ≡ last_or q p.head = c.unwrap_or-last.ensures ∙ ap (λ o. unwrap_or o p.head) c.last.ensures ∙ unwrap_end (q.len == 0) q.tail p.head in
    let e4 : c.unwrap_or.result ≡ first_or q p.head = c.unwrap_or.ensures ∙ ap (λ o. unwrap_or o p.head) c.first.ensures ∙ unwrap_end (q.len == 0) q.head p.head in
    record { did = λ _. (cc, cc, cc, cc); refused = λ f. absurd (both_ways _ (ap (λ x. linkable (length cs) p q x) e3 ∙ f) h) }
