mod Asking
mod Examples
mod Retold
