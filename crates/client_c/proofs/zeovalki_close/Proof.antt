-- `zeovalki_close` meets its contract.
use Rattle.client_c.proofs.Exports.{alone_exported}
use Rattle.client_library.specs.Foreign.{Closes}
use Rattle.client_library.specs.contracts.foreign.ForeignClient.{the_row}
use Rattle.client_library.proofs.foreign.ForeignClient.close.Met as of_thm
use Rattle.client_library.proofs.foreign.ForeignClient.close.Symbol.{name as #callee}
use Rattle.client_c.specs.contracts.zeovalki_close.Key.{name as key}
use Rattle.client_c.proofs.zeovalki_close.Statement.{statement}
use Rattle.client_c.proofs.zeovalki_close.Code as code

pub zeovalki_close_spec : {M : Type 1} → statement M
zeovalki_close_spec 𝓤 𝓛 𝓜 𝓡 wired =
    alone_exported the_row 𝓛 𝓜 𝓡 _ _ key #callee Closes
    (code.unfolded 𝓤 𝓛.H 𝓜 𝓡 wired)
    (of_thm.met 𝓤 𝓛 𝓜 𝓡 (code.calls-client_library::foreign::ForeignClient::close 𝓡.env wired))
