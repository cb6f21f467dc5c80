use Rattle.std.proofs.Common.{◌<◌, length, refl, arith}
use Rattle.tpl_fast.proofs.LinkLemmas.{one_told, others_told}
use Rattle.tpl_fast.proofs.links.tell.Goals as goal

pub returns-in_ok-push-clause-told : goal.returns-in_ok-push-clause-told
returns-in_ok-push-clause-told c = λ lt. one_told c.args.lists.now.items _ c.args.at c.index_mut-list.result.now c.push.new.self c.args.task lt c.index_mut-list.ensures.value refl c.in_ok-push.ensures.items

pub returns-in_ok-push-clause-kept : goal.returns-in_ok-push-clause-kept
returns-in_ok-push-clause-kept c =
    let lt : c.args.at < length c.args.lists.now.items = (let a = c.if-at-len.true in let b = c.len.ensures in let d = c.args.lists.now.ok.0 in omega arith) in
    others_told c.args.lists.now.items _ c.args.at c.index_mut-list.result.now c.push.new.self c.args.task lt c.index_mut-list.ensures.value refl c.in_ok-push.ensures.items
