use borrow.Author.Rules.{rules}
use Rattle.std.proofs.Common.{length, ◌≡◌, ◌∙◌, sym, ap₂}
use Rattle.base.specs.Number.{number_in}
use Rattle.jikhvanto.specs.Octets.{pair_places, value_in}
use Rattle.jikhvanto.proofs.StreamLaws.{Leaves, fed_taken, fed_refused, fed_number, fed_value}
use Rattle.jikhvanto.proofs.jk_feed.Goals as goal
use Rattle.jikhvanto.proofs.jk_feed.Goals.{then-is_ok, else-is_ok}

pub returns : goal.returns
returns c =
    let a = c.args in
    let octets = a.stream.now in
    let f = c.feed-multiframes in
    let t = a.chunk.now in
    let p = a.payload.now in
    let o = a.slot0.now in
    let w = f.new.window in
    let p' = f.new.payload in
    let o' = f.new.slot0 in
    let st = f.new.self in
    let x = f.result in
    let was = c.unpack_stream-fed.result in
    let is = c.unpack_stream-fed.ensures in
    let long : length octets ≡ 2144 = search rules in
    let same : (number_in c.map.result ≡ number_in x) × (value_in c.map.result ≡ value_in x) = search rules in
    let given = c.give_value.ensures in
    let leaves : Leaves octets t p o w p' o' long was st x is f.ensures c.if-is_ok.stream = elim c.if-is_ok.branch [
      | then-is_ok y ↦
          fed_taken octets t p o w p' o' long was st x is f.ensures (search rules) c.if-is_ok.stream (y.stream-is ∙ y.store_numbers.ensures)
      | else-is_ok y ↦ fed_refused octets t p o w p' o' long was st x is f.ensures (search rules) c.if-is_ok.stream y.stream-is
    ] in
    record {
      its_outputs = leaves.0;
      its_number = given.0 ∙ same.0 ∙ fed_number octets t p o w p' o' long was st x is f.ensures;
      its_stream = leaves.1;
      its_answer = given.1 ∙ ap₂ pair_places (sym given.0) (same.1 ∙ fed_value octets t p o w p' o' long was st x is f.ensures);
    }
