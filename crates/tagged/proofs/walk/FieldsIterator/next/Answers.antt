-- `next` meets its contract: what stands at the front is the first field, and its bytes are passed. Assumes nothing.
use Rattle.std.proofs.Common.{◌≡◌, ◌+◌, ◌-◌, refl, ap, ◌∙◌, arith, rules, take, drop, length, Ok}
use native.Mathlib.Nat.{add-sub_cancel}
use lib.ListN.{length-drop}
use lib.Seq.{length-take-le}
use Rattle.tagged.specs.Fields.{open_of}
use Rattle.tagged.proofs.ByteLaws.{rest}
use Rattle.tagged.proofs.FieldLaws.{open_whole}
use Rattle.tagged.proofs.WalkLaws.{front_more}
use Rattle.tagged.proofs.walk.FieldsIterator.next.Goals as goal

pub returns-clause-steps : goal.returns-clause-steps
returns-clause-steps c =
    let l = c.args.self.now.rest.now in
    let n = c.in_ok-sort.size in
    let e : open_of 0 0 l ≡ Ok (c.in_ok-sort.sort, n) = search rules in
    let w = open_whole 0 0 l e in
    let size : length (take (n + 3 - 3) (drop 3 l)) ≡ n = rw add-sub_cancel (length-take-le n (drop 3 l) (omega (arith, w.within, length-drop 3 l))) in
    let same : n + 3 ≡ 3 + length (take (n + 3 - 3) (drop 3 l)) = omega (arith, size) in
    record {
      first = front_more l (open_of 0 0 l) refl c.args.self.now.place _ _ e;
      here = refl;
      size = size ∙ w.size;
      next = omega (arith, size);
      after = rest l (n + 3) ∙ ap (λ k. drop k l) same;
      shorter = omega (arith, size, w.within, length-take-le (length l - (n + 3)) (drop (n + 3) l) (omega (arith, length-drop (n + 3) l)));
    }
