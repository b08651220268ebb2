use Rattle.std.proofs.Common.{◌≡◌, ◌-◌, ap, sym, subst, arith, take, drop, length, min}
use Rattle.io_edge.proofs.Given.{gave, ended}
use Rattle.io_edge.proofs.memory.MemSourceSource.read.Goals as goal

pub returns-clause-bytes : goal.returns-clause-bytes
returns-clause-bytes c =
    let from : c.args.self.now.left ≡ drop c.self.inside.at c.self.inside.bytes.items = sym (ap (λ v. v.left) c.self.view_is) in
    let copied = subst (λ bs. take c.fill-count.result c.fill-count.new.buf ≡ take c.fill-count.result (drop c.self.inside.at bs)) c.deref-2.ensures.value c.fill-count.ensures.front in
    let front = gave c.args.self.now.left c.fill-count.new.buf c.self.inside.bytes.items c.self.inside.at c.fill-count.result from copied in
    let count = subst (λ bs. c.fill-count.result ≡ min (length bs - c.self.inside.at) (length c.args.buf.now)) c.deref-2.ensures.value c.fill-count.ensures.count in
    (front, λ zero some. ended (length c.args.buf.now) c.self.inside.bytes.items c.self.inside.at c.fill-count.result count zero (omega arith))
