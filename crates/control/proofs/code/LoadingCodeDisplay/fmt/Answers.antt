use Rattle.std.proofs.Common.{◌≡◌, false, [], rules, arith}
use Rattle.std.specs.Fmt.{digits, padded_integral, format_spec}
use Rattle.std.proofs.lemmas.Fmt.{hex_byte}
use Rattle.control.specs.Codes.{number_text}
use Rattle.control.proofs.code.LoadingCodeDisplay.fmt.Goals as goal

pub returns-clause-writes : goal.returns-clause-writes
returns-clause-writes g c =
    let text : padded_integral (format_spec 32 0 4 2 18446744073709551615) false [] (digits 16 false c.from.result) ≡ number_text c.args.self.now =
    rw (← c.from.ensures) (hex_byte false c.from.result (omega arith)) in
    search (rules, text)
