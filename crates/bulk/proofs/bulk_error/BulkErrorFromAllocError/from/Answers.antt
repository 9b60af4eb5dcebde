use Rattle.std.proofs.Common.{rules}
use Rattle.bulk.proofs.bulk_error.BulkErrorFromAllocError.from.Goals as goal

pub returns : goal.returns
returns c = search rules
