-- How far a client has processed what was sent to it, exactly.
use Rattle.shared_cache.specs.declared.log.Wire.TheVariants.{Main}
use Rattle.wire_currency.proofs.Complete as wires
use Rattle.currency.specs.CompleteExactly.{CompletesExactly}
use Rattle.currency.specs.Links.{IsGot, traffic_of}
use Rattle.currency.proofs.SentLaws.{sent_in_order}
use Rattle.currency.proofs.Wires.{has_main}

pub completes_exactly : CompletesExactly
completes_exactly l x past log meet =
    wires.completes_exactly IsGot (traffic_of l x past) log Main (has_main x.setup.mode.shape) meet
    (sent_in_order l x past)
