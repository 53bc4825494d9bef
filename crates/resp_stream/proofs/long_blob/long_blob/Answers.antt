use Rattle.std.proofs.Common.{arith}
use Rattle.resp_stream.proofs.LongBlob.{blob_here}
use Rattle.resp_stream.proofs.long_blob.long_blob.Goals as goal

pub returns : goal.returns
returns c = grind (arith, blob_here)
