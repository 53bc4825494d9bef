-- `zeovalki_take_out` meets its contract.
use Rattle.client_c.proofs.Exports.{number_exported}
use Rattle.client_library.specs.Foreign.{OnOpen}
use Rattle.client_library.specs.Handles.{TakesOut}
use Rattle.client_library.specs.contracts.foreign.ForeignClient.{the_row}
use Rattle.client_library.proofs.foreign.ForeignClient.take_out.Met as of_thm
use Rattle.client_library.proofs.foreign.ForeignClient.take_out.Symbol.{name as #callee}
use Rattle.client_c.specs.contracts.zeovalki_take_out.Key.{name as key}
use Rattle.client_c.proofs.zeovalki_take_out.Statement.{statement}
use Rattle.client_c.proofs.zeovalki_take_out.Code as code

pub zeovalki_take_out_spec : {M : Type 1} → statement M
zeovalki_take_out_spec 𝓤 𝓛 𝓜 𝓡 wired =
    number_exported the_row 𝓛 𝓜 𝓡 _ _ key #callee (λ n. OnOpen (TakesOut n))
    (code.unfolded 𝓤 𝓛.H 𝓜 𝓡 wired)
    (of_thm.met 𝓤 𝓛 𝓜 𝓡 (code.calls-client_library::foreign::ForeignClient::take_out 𝓡.env wired))
