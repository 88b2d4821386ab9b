use Rattle.std.proofs.Common.{append_assoc}
use Rattle.paper.specs.Printed.{refusal_line}
use Rattle.paper.specs.Quoted.{text}
use Rattle.text.proofs.refusing.refusal_line.Goals as goal

pub returns : goal.returns
unfolding refusal_line text
returns c =
    simp (
      c.push.ensures.items,
      c.push_number-6.ensures.items,
      c.push_word-3.ensures.items,
      c.push_number-5.ensures.items,
      c.push_number-4.ensures.items,
      c.push_number-3.ensures.items,
      c.push_word-2.ensures.items,
      c.push_number-2.ensures.items,
      c.push_word.ensures.items,
      c.push_number.ensures.items,
      c.push_bytes.ensures.items,
      c.new-text.ensures,
      c.figure.ensures,
      c.place.ensures,
      c.from-4.ensures,
      c.from-3.ensures,
      c.from-2.ensures,
      c.from.ensures,
      c.number.ensures,
      c.identities.ensures,
      append_assoc,
    )
