use Rattle.java_text.proofs.pieces.push_either.Goals as goal

pub returns-then-enclosed : goal.returns-then-enclosed
returns-then-enclosed c = λ names exprs low. rw c.if-enclosed.true (c.push_enclosed.ensures names exprs low)
