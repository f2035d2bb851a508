use Rattle.ns_snapshot_write.proofs.frame.FrameKindPart.put.Goals as goal

pub returns-in-Kernel : goal.returns-in-Kernel
returns-in-Kernel c = rw c.in-Kernel.is c.put_kernel.ensures
