use Rattle.std.proofs.Common.{◌<◌, length, Some, IfSome, ap, ◌∙◌, subst, arith}
use Rattle.std.proofs.lemmas.Grind.{common_steps}
use Rattle.css_parse.specs.Plain.{IsPlain, IsPlainLeaf, IsPlainHead}
use Rattle.css_parse.proofs.PlainGoing.{FoundLeaf, found-leaf, FoundHead, found-head}
use Rattle.css_parse.proofs.parser.Parser.take_statement.Goals as goal
use Rattle.css_parse.proofs.parser.Parser.take_statement.Goals.{In-Some-Leaf, Then-len-lt200}

leaf : (c : In-Some-Leaf) → FoundLeaf c.args.src.now c.args.at c.args.self.now c.in-Some-Leaf.leaf
leaf c =
    let plain : IsPlainLeaf c.as_bytes.result.now c.args.at c.in-Some-Leaf.leaf = subst (λ r. IfSome r (λ s. IsPlain c.as_bytes.result.now c.args.at s)) (c.in-Some-Leaf.is ∙ ap Some c.in-Some-Leaf.field-0-is) c.statement_at.ensures in
    found-leaf c.args.src.now c.args.at c.args.self.now c.in-Some-Leaf.leaf c.utf8.src c.requires.going c.requires.idle (subst (λ z. IsPlainLeaf z c.args.at c.in-Some-Leaf.leaf) c.as_bytes.ensures.value plain)

head : (c : Then-len-lt200) → FoundHead c.args.src.now c.args.at c.args.self.now c.in-Some-Head.head
head c =
    let few : length c.args.self.now.frames.items < 200 = grind (arith, common_steps) in
    let plain : IsPlainHead c.as_bytes.result.now c.args.at c.in-Some-Head.head = subst (λ r. IfSome r (λ s. IsPlain c.as_bytes.result.now c.args.at s)) (c.in-Some-Head.is ∙ ap Some c.in-Some-Head.field-0-is) c.statement_at.ensures in
    found-head c.args.src.now c.args.at c.args.self.now c.in-Some-Head.head c.utf8.src c.requires.going c.requires.idle few (subst (λ z. IsPlainHead z c.args.at c.in-Some-Head.head) c.as_bytes.ensures.value plain)

pub add_plain_leaf-requires-clause-behind : goal.add_plain_leaf-requires-clause-behind
add_plain_leaf-requires-clause-behind c = (leaf (goal.at.add_plain_leaf-requires-clause-behind c).In-Some-Leaf).behind

pub overflow_add-result : goal.overflow_add-result
overflow_add-result c = let k = (leaf (goal.at.overflow_add-result c).In-Some-Leaf).within in omega (arith, k, c.requires.short)

pub brace_at-requires-clause-begins : goal.brace_at-requires-clause-begins
brace_at-requires-clause-begins c = (head (goal.at.brace_at-requires-clause-begins c).Then-len-lt200).begins

pub brace_at-requires-clause-ends : goal.brace_at-requires-clause-ends
brace_at-requires-clause-ends c = (head (goal.at.brace_at-requires-clause-ends c).Then-len-lt200).ends

pub brace_at-requires-clause-is_brace : goal.brace_at-requires-clause-is_brace
brace_at-requires-clause-is_brace c = (head (goal.at.brace_at-requires-clause-is_brace c).Then-len-lt200).is_brace

pub add_plain_head-requires-clause-ending : goal.add_plain_head-requires-clause-ending
add_plain_head-requires-clause-ending c = (head (goal.at.add_plain_head-requires-clause-ending c).Then-len-lt200).ending

pub add_plain_head-requires-clause-behind : goal.add_plain_head-requires-clause-behind
add_plain_head-requires-clause-behind c = (head (goal.at.add_plain_head-requires-clause-behind c).Then-len-lt200).behind

pub returns-in_ok-add_plain_leaf-in-Some-Leaf : goal.returns-in_ok-add_plain_leaf-in-Some-Leaf
returns-in_ok-add_plain_leaf-in-Some-Leaf c =
    let k = leaf (goal.at.returns-in_ok-add_plain_leaf-in-Some-Leaf c).In-Some-Leaf in
    let e = c.in_ok-add_plain_leaf-in-Some-Leaf.ensures in
    (k.more, k.within, k.on c.add_plain_leaf.new.self e.model e.up_to)

pub returns-in_ok-add_plain_head-in-Some-Head : goal.returns-in_ok-add_plain_head-in-Some-Head
returns-in_ok-add_plain_head-in-Some-Head c =
    let k = head (goal.at.returns-in_ok-add_plain_head-in-Some-Head c).Then-len-lt200 in
    let e = c.in_ok-add_plain_head-in-Some-Head.ensures in
    (k.more, k.within, k.on c.add_plain_head.new.self e.model e.up_to)
