use Rattle.std.proofs.Common.{◌+◌, ◌*◌, ◌<◌, length, ap, ◌∙◌, arith, take}
use Rattle.std.proofs.lemmas.Nat.{mul-add-lt}
use Rattle.std.proofs.lemmas.List.{get_or_read, length-take-le}
use Rattle.claim_blocks.specs.Counts.{ends_of}
use Rattle.claim_blocks.proofs.WordTables.{counted_word, few_counted}
use Rattle.claim_blocks.proofs.counts.count_word.Goals as goal

pub overflow_add-index_mut : goal.overflow_add-index_mut
overflow_add-index_mut c =
    let r = c.ends_of-from.result in
    let t = c.ends_of-from.type_inv in
    let words = take c.args.i c.args.words.now in
    let small : r.0 * c.args.size + r.1 < length c.args.counts.now.items = (let e = c.requires.before.counted in omega (arith, mul-add-lt r.0 c.args.size r.1 256 (omega (arith, t)) c.if-to-size.false, e)) in
    let v = get_or_read c.args.counts.now.items (r.0 * c.args.size + r.1) _ small c.index_mut.ensures.value 0 in
    let e = c.requires.before.each r.0 r.1 (omega (arith, t)) c.if-to-size.false in
    let k = few_counted words c.args.side r.0 r.1 in
    let l = length-take-le c.args.i c.args.words.now (let i = c.requires.inside in omega (arith, i)) in
    omega (arith, v, e, k, l, c.requires.room, c.requires.inside)

pub returns : goal.returns
returns c =
    let r = c.ends_of-from.result in
    let t = c.ends_of-from.type_inv in
    let small : r.0 * c.args.size + r.1 < length c.args.counts.now.items = (let e = c.requires.before.counted in omega (arith, mul-add-lt r.0 c.args.size r.1 256 (omega (arith, t)) c.if-to-size.false, e)) in
    let v = get_or_read c.args.counts.now.items (r.0 * c.args.size + r.1) _ small c.index_mut.ensures.value 0 in
    counted_word c.args.words.now c.args.side c.args.size c.args.i c.args.counts.now.items c.index-words-i.result c.requires.inside c.requires.before r c.index_mut.result.now
    (c.ends_of-from.ensures ∙ ap (ends_of c.args.side) c.index-words-i.is) (omega (arith, t)) c.if-to-size.false v
