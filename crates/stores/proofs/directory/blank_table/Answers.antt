-- One number on, and then the free nodes.
use Rattle.std.proofs.Common.{◌≡◌, ℕ, sym, subst, arith, replicate}
use Rattle.stores.specs.declared.node.Entry.{Entry}
use Rattle.stores.proofs.Openings.{Numbered, numbered-none, numbered_more, blank_made}
use Rattle.stores.proofs.directory.blank_table.Goals as goal

pub loop-i-init : goal.loop-i-init
loop-i-init c = subst (λ (x : Entry). Numbered (replicate 257 x) 0) (sym c.spare-entries.ensures) numbered-none

pub loop-i-preserved : goal.loop-i-preserved
loop-i-preserved c = numbered_more c.loop-i.entry-items c.loop-i.i _ c.loop-i.invariant c.loop-i-test.true c.spare.ensures

pub returns : goal.returns
returns c =
    let e : c.loop-i.i ≡ 257 = omega (arith, c.loop-i-test.false, c.loop-i.auto.i-end) in
    blank_made c.loop-i.entry-items c.args.n _ _ (subst (λ (k : ℕ). Numbered c.loop-i.entry-items k) e c.loop-i.invariant) c.saturating_sub.ensures c.spare-2.ensures
