-- Every node is free, and no entry is in use.
use Rattle.std.proofs.Common.{◌≤◌, length, vec_items, ◌∙◌, arith}
use Rattle.std.proofs.Math.Nat.{div-le_self}
use Rattle.stores.proofs.Openings.{open_order_is}
use Rattle.stores.proofs.directory.Directory.new.Goals as goal

pub invariant_of-result : goal.invariant_of-result
invariant_of-result c =
    let small : length (vec_items c.args.nodes) ≤ 262144 = omega (arith, c.if-words-gt-STORE_WORDS.false, c.if-len-words.false, c.len.ensures, c.args.nodes.ok.0, div-le_self c.args.words c.args.each) in
    record { order = open_order_is (vec_items c.args.nodes) (vec_items c.free_all.new.nodes) c.blank_table-entries.result small c.len-2.result (c.len-2.ensures ∙ c.free_all.new.nodes.ok.0) c.free_all.ensures.long c.blank_table-entries.ensures c.free_all.ensures.free }
