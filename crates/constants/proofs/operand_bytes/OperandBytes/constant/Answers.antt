use Rattle.constants.proofs.Values.{rounded_once, gives_clean}
use Rattle.constants.proofs.operand_bytes.OperandBytes.constant.Goals as goal

pub returns-else-self-eq0-clause-decimal : goal.returns-else-self-eq0-clause-decimal
returns-else-self-eq0-clause-decimal c = let a = c.args.self in λ lawful. rounded_once a.p1 a.p2 a.p3 a.p4 lawful _ c.nonzero.ensures

pub returns-else-self-eq0-clause-finite : goal.returns-else-self-eq0-clause-finite
returns-else-self-eq0-clause-finite c = let a = c.args.self in gives_clean a.p1 a.p2 a.p3 a.p4 _ c.nonzero.ensures
